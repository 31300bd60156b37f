-- Lemmas.
mod Common
pub mod FieldLemmas
mod CompareLemmas
pub mod RunLemmas
pub mod WalkLemmas
mod StepLemmas
mod CutLemmas
mod LiteralLemmas
mod ConditionLemmas
mod FrontLemmas
mod StoppedLemmas
mod RoleLemmas
mod SameLemmas
pub mod PartLemmas
mod PassedLemmas
pub mod MadeLemmas
mod WriterLemmas
mod ExampleLemmas
mod CountLemmas
mod ScanLemmas
mod SumLemmas
mod MantissaLemmas
pub mod PieceLemmas
mod JoinLemmas
mod NumberLemmas
mod CauseLemmas
mod RefusalLemmas
mod JointLemmas
mod BlameLemmas
mod PartOfLemmas
pub mod OneCauseLemmas
mod GroupLemmas
mod SizeLemmas
mod FitLemmas
mod DecideLemmas
mod SpanLemmas
mod StopLemmas
