-- A reader sees no difference between equivalent formats.
use Rattle.lexical_literal.proofs.Common.{Conditions, Option, Options, Part, Record, arith, byte_value, cased, exponent_character_of, has, lacks_options}
use Rattle.lexical_literal.proofs.Common.{nat_lt, notation_of, number_of, point_of, radix_of, raw, used_separator, ℕ, ◌≡◌}
use Rattle.lexical_util.specs.NormalForm.{SameFormat}
use Rattle.lexical_util.specs.Layout as layout

module _ (r s : Record) (same : SameFormat r s) where
  same_radix : (part : Part) → radix_of r part ≡ radix_of s part
  same_radix x0 = grind arith

  same_separator : (byte : ℕ) → used_separator r byte ≡ used_separator s byte
  same_separator byte = grind arith

  same_character : (options : Option Options) (byte : ℕ) → exponent_character_of r options byte ≡ exponent_character_of s options byte
  same_character options byte = let flag = same.flags layout.case_sensitive_exponent in grind arith

-- Equivalent words have the same notation.
pub same_notation : (a b : ℕ) (options : Option Options) (conditions : Conditions) → SameFormat (raw a) (raw b)
    → notation_of (record { word = a; options = options; conditions = conditions }) ≡ notation_of
    (record { word = b; options = options; conditions = conditions })
same_notation a b options conditions same = λ j. record {
  flag = λ f. same.flags f j;
  condition = has conditions;
  number = number_of conditions;
  digit = λ part byte. nat_lt (byte_value byte) (same_radix (raw a) (raw b) same part j);
  separator = λ byte. same_separator (raw a) (raw b) same byte j;
  prefix = λ byte. cased (same.flags layout.case_sensitive_base_prefix j) (same.base_prefix j) byte;
  suffix = λ byte. cased (same.flags layout.case_sensitive_base_suffix j) (same.base_suffix j) byte;
  point = point_of options;
  exponent_character = λ byte. same_character (raw a) (raw b) same options byte j;
  integers_only = lacks_options options;
}
