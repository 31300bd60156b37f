-- For rules as values and for masks: definitions that only additions to `lexical-util` cite.
pub mod Masks
pub mod RuleFields
