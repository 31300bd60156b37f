-- Two lists that represent a record, as the `impl Model` of the builder requires. Different records have different
-- lists. The lists do not affect what a builder means in a clause. No contract cites them.
use Rattle.std.specs.Prelude.{◌≡◌, ℕ, Bool, false, refl, List, map, slice_index_or}
use Rattle.std.specs.Coded.{Coded, code_by, coded×, coded_bool, coded_list, coded_ℕ}
use Rattle.lexical_flags.specs.Layout.{Flag, Byte, flags, bytes}
use Rattle.lexical_flags.specs.Layout as layout
use Rattle.lexical_flags.specs.Record.{Record}
use Rattle.lexical_builder.specs.BuilderBits.{builder_bit, byte_index}

-- `to_lists r` is the pair of the list of the flags of `r` and the list of its bytes.
abbrev to_lists : Record → List Bool × List ℕ
to_lists r = (map r.flag flags, map r.byte bytes)

-- `from_lists p` is the record with the flags and bytes in the two lists of `p`.
abbrev from_lists : List Bool × List ℕ → Record
from_lists p = record {
  flag = λ f. slice_index_or p.0 (builder_bit f) false;
  byte = λ b. slice_index_or p.1 (byte_index b) 0;
}

-- For each record `r`, `from_lists (to_lists r)` is `r`.
pub from_lists-to_lists : (r : Record) → from_lists (to_lists r) ≡ r
from_lists-to_lists r = λ i. record { flag = λ f. on_flag f i; byte = λ b. on_byte b i } where
  on_flag : (f : Flag) → slice_index_or (map r.flag flags) (builder_bit f) false ≡ r.flag f
  on_flag layout.required_integer_digits = refl
  on_flag _ = refl

  on_byte : (b : Byte) → slice_index_or (map r.byte bytes) (byte_index b) 0 ≡ r.byte b
  on_byte layout.digit_separator = refl
  on_byte _ = refl

-- `record_code` encodes a record as the list of its flags and the list of its bytes.
abbrev pub record_code : Coded Record
record_code =
    code_by (List Bool × List ℕ) (coded× (coded_list coded_bool) (coded_list coded_ℕ)) to_lists from_lists
    from_lists-to_lists
