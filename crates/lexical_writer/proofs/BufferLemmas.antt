-- Texts in buffers.
use Rattle.lexical_writer.proofs.Common.{Form, IsIn, IsPut, IsTaken, List, Literal, None, [], ap, append-nil, append_assoc, arith, drop, length, length-append}
use Rattle.lexical_writer.proofs.Common.{length-drop, length-take, min, refl, sym, take, take-append-drop, text_by, text_of, ℕ, ◌++◌, ◌+◌, ◌-◌, ◌<◌, ◌^◌, ◌∙◌}
use Rattle.lexical_writer.proofs.Common.{◌≡◌, ◌≤◌}
use Rattle.std.proofs.Math.Seq.{take-append_seam}
use Rattle.lexical_writer.specs.declared.sink.Window.{Window}

-- Nothing has been put into a window of length 0.
pub unused : (window : Window) → window.length ≡ 0 → IsIn window window []
unused window none = (refl, record { counted = none; long = refl; begins = λ short. refl; unchanged = λ index behind. refl })

-- Before the first byte, nothing has been put.
pub put_none : (bytes : List ℕ) → IsPut [] bytes 0
put_none bytes = record { counted = refl; begins = λ _. refl }

-- What is put behind a text is put behind it.
pub put_behind : (a b part old tail : List ℕ) (n m k s : ℕ) → n < 2 ^ 64 - 1 → k ≡ min n (length old) → s ≡ min (n + m) (2 ^ 64 - 1)
    → length tail ≡ length old - k → IsPut a old n → IsTaken b part tail m
    → IsPut (a ++ b) (take k old ++ (tail ++ drop (length old - k) (drop k old))) s
put_behind a b part old tail n m k s small least sum room first last =
    let post = drop (length old - k) (drop k old) in
    let size = length-append (take k old) (tail ++ post) in
    let sizes = length-append tail post in
    let front = length-take k old in
    let behind = length-drop k old in
    let none = length-drop (length old - k) (drop k old) in
    let both = length-append a b in
    record {
      counted = omega (arith, first.counted, last.counted, both, small, sum);
      begins = λ fits.
          let own : length a ≤ length old = omega (arith, fits, both, size, sizes, front, behind, none, room, least, small, first.counted) in
          let here : k ≡ length a = omega (arith, own, least, small, first.counted) in
          let begin : take k old ≡ a = ap (λ n. take n old) here ∙ first.begins own in
          let rest : length b ≤ length tail = omega (arith, fits, both, size, sizes, front, behind, none, room, here, own) in
          let end : tail ≡ b ++ drop (length b) tail = sym (take-append-drop (length b) tail) ∙ ap (λ l. l ++ drop (length b) tail) (last.begins rest) in
          (λ i. take (length (a ++ b)) (begin i ++ (end i ++ post)))
          ∙ ap (λ l. take (length (a ++ b)) (a ++ l)) (append_assoc b (drop (length b) tail) post)
          ∙ ap (take (length (a ++ b))) (sym (append_assoc a b (drop (length b) tail ++ post))) ∙ take-append_seam (a ++ b) (drop (length b) tail ++ post);
    }

-- What is behind an index is as long as the rest.
pub part_size : (k : ℕ) (old : List ℕ) → length (take (length old - k) (drop k old)) ≡ length old - k
part_size k old = grind (arith, length-take {A = ℕ}, length-drop {A = ℕ})

-- In a form without an opening, the text is that of the literal.
pub plain_by : (form : Form) (l : Literal) → form.opening.size ≡ 0 → text_by form None l ≡ text_of l
plain_by form l opening = (λ i. (take (opening i) form.opening.bytes ++ text_of l) ++ []) ∙ append-nil (text_of l)
