use Rattle.lexical_base.proofs.short_text.ShortText.+put_hexadecimal.Given as goal

-- The kit proposed this measure from the argument of the recursive call.
abbrev pub decreases-put_hexadecimal : goal.decreases-put_hexadecimal
decreases-put_hexadecimal l = l.n
