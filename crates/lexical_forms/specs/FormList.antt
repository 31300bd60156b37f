-- The forms of numbers, and the spellings of special values, as contracts see them.
use Rattle.std.specs.Prelude.{◌==◌, not, Bool, List, Option}
use Rattle.std.specs.Borrow.{Bor}
use Rattle.std.specs.List.{list_any}
use Rattle.lexical_forms.specs.declared.form.Form.{Form}
use Rattle.lexical_forms.specs.declared.list.Tokens.{Tokens}
use Rattle.lexical_forms.specs.declared.specials.Specials.{Specials}

-- `FormList` has forms, of which the first that reads a text decides what number it is, the spellings of special values, and how tokens are read.
pub record FormList : Type 0 where
  pub forms : List Form
  pub specials : Specials
  pub tokens : Option (Bor Tokens)

-- `have_openings forms` is true if one of `forms` has an opening.
abbrev pub have_openings : List Form → Bool
have_openings forms = list_any (λ (form : Form). not (form.opening.size == 0)) forms
