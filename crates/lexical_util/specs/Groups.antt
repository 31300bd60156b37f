-- The flags of a word that are in a list of flags.
use Rattle.std.specs.Prelude.{ℕ, Bool, List, sum_by}
use Rattle.std.specs.List.{list_any}
use Rattle.lexical_flags.specs.Layout.{Flag}
use Rattle.lexical_flags.specs.Record.{raw, flag_bits}

-- `any_flag word fs` is true if at least one of the flags `fs` is set in `word`.
unfoldable pub any_flag : ℕ → List Flag → Bool
any_flag word fs = list_any (raw word).flag fs

-- `bits_of word fs` is the number with the bits of the flags in `fs` that are set in `word`.
unfoldable pub bits_of : ℕ → List Flag → ℕ
bits_of word fs = sum_by (flag_bits (raw word)) fs
