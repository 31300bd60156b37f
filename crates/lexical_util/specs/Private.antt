-- Definitions for private functions and for the proofs of this crate. No public contract cites them.
use Rattle.std.specs.Prelude.{Bool}
use Rattle.std.specs.List.{list_any}
use Rattle.lexical_builder.specs.Writes.{new_record, changes}
use Rattle.lexical_util.specs.Edits.{writes_of}
use Rattle.lexical_util.specs.declared.edits.setters.Edit.{Edit}

-- `differs_from_new edit` is true if `edit` writes a value that differs from the value of the field in a new builder.
abbrev pub differs_from_new : Edit → Bool
differs_from_new edit = list_any (changes new_record) (writes_of edit)
