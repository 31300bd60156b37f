-- For roles of bytes, `reasons`, words as text and `field_edits_of`: the definitions that only additions to `lexical-util` cite.
pub mod ByteRoles
pub mod EditMasks
pub mod Numeral
pub mod FieldEdits
pub mod Settings
pub mod Reasons
pub mod Notes
pub mod WordText
