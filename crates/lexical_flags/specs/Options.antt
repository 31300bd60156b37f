-- An exponent character and a decimal point, which are chosen by the options of a parser or a writer.
use Rattle.std.specs.Prelude.{ℕ, ◌≡◌, IsTrue}
use Rattle.std.specs.List.{AllByRecursion}
use Rattle.lexical_base.specs.Ascii.{allowed_ascii}
use Rattle.lexical_flags.specs.Record.{raw}
use Rattle.lexical_flags.specs.Roles.{Disjoint, AreDisjoint, exponent, point, format_roles, seven_roles}
use Rattle.lexical_flags.specs.Rules.{IsPunctuation, ErrorUnless}
use Rattle.lexical_base.specs.declared.error.Error.{Error}
use Rattle.lexical_base.specs.declared.error.Error.TheVariants as errors

-- `OptionsFit word exponent_byte point_byte` holds if both bytes are punctuation in the format of `word`, and their
-- roles are disjoint from each other and from the roles of the bytes of `word`.
pub record OptionsFit (word exponent_byte point_byte : ℕ) : Type 0 where
  pub exponent_is_punctuation : IsPunctuation (raw word) exponent_byte
  pub point_is_punctuation : IsPunctuation (raw word) point_byte
  pub apart : Disjoint (exponent (raw word) exponent_byte) (point point_byte)
  pub exponent_is_new : AllByRecursion (Disjoint (exponent (raw word) exponent_byte)) (format_roles (raw word))
  pub point_is_new : AllByRecursion (Disjoint (point point_byte)) (format_roles (raw word))

-- `IsOptionsError word exponent_byte point_byte error` holds if `error` is the error of the first condition that the
-- two bytes do not satisfy, or `Success` if they satisfy all.
abbrev pub IsOptionsError : ℕ → ℕ → ℕ → Error → Type 0
IsOptionsError word exponent_byte point_byte =
    ErrorUnless (IsPunctuation (raw word) exponent_byte) errors.InvalidExponentSymbol
    (ErrorUnless (IsPunctuation (raw word) point_byte) errors.InvalidDecimalPoint
    (ErrorUnless (OptionsFit word exponent_byte point_byte) errors.InvalidPunctuation (λ e. e ≡ errors.Success)))

-- `OptionsHaveOneRole word exponent_byte point_byte` holds if both bytes are allowed ASCII and no byte plays two roles.
pub record OptionsHaveOneRole (word exponent_byte point_byte : ℕ) : Type 0 where
  pub exponent_is_text : IsTrue (allowed_ascii exponent_byte)
  pub point_is_text : IsTrue (allowed_ascii point_byte)
  pub roles : AreDisjoint (seven_roles (raw word) exponent_byte point_byte)

-- `SomeOptionsHaveOneRole word` holds if `OptionsHaveOneRole` holds of `word` and some two bytes.
pub record SomeOptionsHaveOneRole (word : ℕ) : Type 0 where
  pub exponent_byte : ℕ
  pub point_byte : ℕ
  pub one_role : OptionsHaveOneRole word exponent_byte point_byte
