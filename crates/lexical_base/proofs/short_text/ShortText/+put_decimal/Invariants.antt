use Rattle.lexical_base.proofs.short_text.ShortText.+put_decimal.Given as goal

-- The kit proposed this measure from the argument of the recursive call.
abbrev pub decreases-put_decimal : goal.decreases-put_decimal
decreases-put_decimal l = l.n
