-- Words behind a number: suffixes, which belong to it, words that may follow it, and bytes that may not.
use Rattle.std.specs.Prelude.{ℕ, ◌+◌, ◌-◌, ◌==◌, ◌&&◌, ◌||◌, Bool, false, if◌then◌else◌, nat_le, nat_lt, List, [], Option, Some, None}
use Rattle.std.specs.Prelude.{drop, filter, fold, length, map, max, option_map, slice_get, unwrap_or}
use Rattle.std.specs.Borrow.{Bor}
use Rattle.std.specs.Char.{eq_ignore_ascii_case, is_ascii_alphanumeric}
use Rattle.std.specs.List.{find, list_any, prefix_len, starts_with}
use Rattle.lexical_util.specs.Ascii.{ByteSet}
use Rattle.lexical_literal.specs.Cause.{is_in}
use Rattle.lexical_literal.specs.declared.kind.Kind.{Kind}
use Rattle.lexical_forms.specs.declared.suffix.Stop.{Stop}
use Rattle.lexical_forms.specs.declared.suffix.Suffixes.{Suffixes}

-- `is_word_byte byte` is true if `byte` is a digit, a letter, `_` or at least 128.
abbrev pub is_word_byte : ByteSet
is_word_byte byte = is_ascii_alphanumeric byte || (byte == 95) || nat_le 128 byte

-- `more_of suffixes` lists the bytes that their words have besides.
abbrev pub more_of : Option (Bor Suffixes) → List ℕ
more_of suffixes = unwrap_or (option_map (λ (it : Bor Suffixes). it.now.more.now) suffixes) []

-- `word_size more text` is the number of bytes of a word, which may have the bytes `more` besides, with which `text` begins.
abbrev pub word_size : List ℕ → List ℕ → ℕ
word_size more text = prefix_len (λ byte. list_any (λ it. it == byte) more || is_word_byte byte) text

-- `stop_end more text index` is the index behind the byte at `index` and the word that follows it, or `index` at the end of `text`.
abbrev pub stop_end : List ℕ → List ℕ → ℕ → ℕ
stop_end more text index = if nat_lt index (length text) then index + 1 + word_size more (drop (index + 1) text) else index

-- `begins either word text` is true if `text` begins with `word`, letter case aside if `either` is true.
abbrev pub begins : Bool → List ℕ → List ℕ → Bool
begins either word text = starts_with (λ letter byte. if either then eq_ignore_ascii_case letter byte else letter == byte) text word

-- `suffix_words suffixes float` lists the words that are suffixes behind a float or else an integer.
abbrev pub suffix_words : Option (Bor Suffixes) → Bool → List (Bor (List ℕ))
suffix_words suffixes float = unwrap_or (option_map (λ (it : Bor Suffixes). if float then it.now.floats.now else it.now.integers.now) suffixes) []

-- `suffix_size suffixes float text` is the length of the longest suffix with which `text` begins, behind a float or else an integer, or 0 if there is none:
-- of the whole word if its first byte says that any is one, or else of one of the words that are in it, or that are all of it if only such ones are.
abbrev pub suffix_size : Option (Bor Suffixes) → Bool → List ℕ → ℕ
suffix_size None float text = 0
suffix_size (Some it) float text =
    let whole = word_size it.now.more.now text in
    let least = if it.now.whole_words then whole else 0 in
    if is_in (λ byte. list_any (λ it. it == byte) it.now.any.now) (slice_get text 0) then whole
    else fold max 0 (map (λ word. length word.now) (filter (λ word. nat_le least (length word.now) && nat_le (length word.now) whole
    && begins it.now.either_case word.now text) (suffix_words (Some it) float)))

-- `kind_with suffixes word kind` is the kind of a number with the suffix `word`: that of the first word which is this one, letter case aside if the
-- suffixes are read in either case, and `kind` if none is, or without a suffix.
abbrev pub kind_with : Option (Bor Suffixes) → List ℕ → Kind → Kind
kind_with None word kind = kind
kind_with (Some it) word kind = if length word == 0 then kind else unwrap_or (option_map (λ it. it.1)
    (find (λ first. begins it.now.either_case first.0.now word && (length first.0.now == length word)) it.now.kinds.now)) kind

-- `is_followed words text` is true if the word with which `text` begins is one of `words`.
abbrev pub is_followed : List (Bor (List ℕ)) → List ℕ → Bool
is_followed words text = list_any (λ word. begins false word.now text && (length word.now == word_size [] text)) words

-- `byte_before text index` is the byte before the one at `index`, or `None` if there is none.
abbrev pub byte_before : List ℕ → ℕ → Option ℕ
byte_before text index = if index == 0 then None else slice_get text (index - 1)

-- `admits bytes byte` is true if `byte` is one of `bytes`, or if `bytes` is empty.
abbrev pub admits : List ℕ → Option ℕ → Bool
admits bytes byte = (length bytes == 0) || is_in (λ other. list_any (λ it. it == other) bytes) byte

-- `meets text end stop` is true if the number that ends at `end` ends in a byte that `stop` names, and if the two bytes behind it are such ones, too.
abbrev pub meets : List ℕ → ℕ → Stop → Bool
meets text end stop =
    admits stop.last.now (byte_before text end) && admits stop.next.now (slice_get text end) && admits stop.second.now (slice_get text (end + 1))
