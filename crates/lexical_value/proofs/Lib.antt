mod Common
pub mod FloatLemmas
pub mod KindLemmas
pub mod ScaledLemmas
pub mod ValueLemmas
