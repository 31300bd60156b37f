-- Grammars are compared by their fields, one after the other.
use Rattle.lexical_literal.proofs.Common.{ap, sym, ℕ, ◌∙◌, ◌≡◌}
use Rattle.lexical_literal.specs.Additions.Fields.{AreFields, fields_of, fields_same, worded}
use Rattle.lexical_literal.specs.declared.syntax.Grammar.TheInside.{Inside}

-- Results of `f`, each of which goes on with that of the next field, by a comparison `q`.
module _ {A : Type 0} (f : A → A → A) (assoc : (a b c : A) → f (f a b) c ≡ f a (f b c)) (q : ℕ → ℕ → A) where
  more : (r p s rest : A) → r ≡ f p s → f r rest ≡ f p (f s rest)
  more r p s rest is = ap (λ r. f r rest) is ∙ assoc p s rest

  abbrev pub fields_by : A → Inside → Inside → A
  fields_by z a b =
      f (q a.exponent_radix b.exponent_radix) (f (q a.exponent_base b.exponent_base) (f (q a.radix b.radix) (f (q a.suffix b.suffix) (f (q a.prefix b.prefix)
      (f (q a.separator b.separator) (f (q a.flags b.flags) (f (q a.exponent b.exponent) (f (q a.point b.point) z))))))))

  pub compared : (a b : Inside) → AreFields a → AreFields b → (r0 r1 r2 r3 r4 r5 r6 r7 r8 r9 z : A)
      → r0 ≡ q a.exponent_radix b.exponent_radix → r1 ≡ f r0 (q a.exponent_base b.exponent_base) → r2 ≡ f r1 (q a.radix b.radix)
      → r3 ≡ f r2 (q a.suffix b.suffix) → r4 ≡ f r3 (q a.prefix b.prefix) → r5 ≡ f r4 (q a.separator b.separator) → r6 ≡ f r5 (q a.flags b.flags)
      → r7 ≡ f r6 (q a.exponent b.exponent) → r8 ≡ f r7 (q a.point b.point) → r9 ≡ f r8 z → r9 ≡ fields_by z (fields_of (worded a)) (fields_of (worded b))
  compared a b h k r0 r1 r2 r3 r4 r5 r6 r7 r8 r9 z i0 i1 i2 i3 i4 i5 i6 i7 i8 i9 =
      i9 ∙ more _ _ _ _ i8 ∙ more _ _ _ _ i7 ∙ more _ _ _ _ i6 ∙ more _ _ _ _ i5 ∙ more _ _ _ _ i4 ∙ more _ _ _ _ i3
      ∙ more _ _ _ _ i2 ∙ more _ _ _ _ (i1 ∙ ap (λ r. f r (q a.exponent_base b.exponent_base)) i0) ∙ sym (λ i. fields_by z (fields_same a h i) (fields_same b k i))
