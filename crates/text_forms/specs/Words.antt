-- A LINE IN WORDS: words with one space between two, read one after another from the left.
use Rattle.std.specs.Prelude.{◌≡◌, ℕ, zero, suc, Bool, ◌==◌, ◌-◌, ◌&&◌, nat_lt, nat_le, List, [], length, take, drop, Option, Some, None, Result, Ok, Err, if◌then◌else◌, unwrap_or}
use Rattle.std.specs.Option.{option_and_then}
use Rattle.std.specs.List.{list_any, list_all, position_or_len, before_first, after_first}
use Rattle.std.specs.Str.{bytes_eq}
use Rattle.text_forms.specs.declared.mistake.Mistake.{Mistake}
use Rattle.text_forms.specs.declared.mistake.Mistake.TheVariants.{Space, CarriageReturn, NotPrintable, Surplus}
use Rattle.text_forms.specs.declared.words.Blame.{Blame}
use Rattle.text_forms.specs.declared.words.Unread.{Unread}
use Rattle.text_forms.specs.declared.words.Unread.TheVariants.{At, Memory}

abbrev pub is_space : ℕ → Bool
is_space c = c == 32

-- the first word of some words, and the words after it, if there are any
abbrev pub first_word : List ℕ → List ℕ
first_word words = before_first is_space words

abbrev pub other_words : List ℕ → Option (List ℕ)
other_words words =
    if nat_lt (position_or_len is_space words) (length words) then Some (after_first is_space words) else None

-- the words behind the first; none where there is no other
abbrev pub others : List ℕ → List ℕ
others words = unwrap_or (other_words words) []

-- the words from this one on, counted from 0
abbrev pub words_from : ℕ → List ℕ → List ℕ
words_from zero words = words
words_from (suc place) words = words_from place (others words)

-- the value of a word NAME=VALUE with this name and its sign
abbrev pub value_in : List ℕ → List ℕ → Option (List ℕ)
value_in name word = if bytes_eq (take (length name) word) name then Some (drop (length name) word) else None

-- What no word has in it.

abbrev pub is_cr : ℕ → Bool
is_cr c = c == 13

-- a printable character of ASCII
abbrev pub is_plain : ℕ → Bool
is_plain c = nat_le 32 c && nat_le c 126

-- an empty word, or one with an octet that no word has
abbrev pub odd_in : List ℕ → Option Mistake
odd_in word =
    if length word == 0 then Some Space
    else (if list_any is_cr word then Some CarriageReturn
    else (if list_all is_plain word then None else Some NotPrintable))

-- the mistake of a word: what no word has, or this
abbrev pub judged : List ℕ → Mistake → Mistake
judged word mistake = unwrap_or (odd_in word) mistake

-- WHAT IS READ of a line, or else the word at fault
abbrev pub Read : Type 0 → Type 0
Read A = Result A Blame

abbrev pub read_then : {A B : Type 0} → (A → Read B) → Read A → Read B
read_then f (Ok a) = f a
read_then f (Err blame) = Err blame

-- a place that was filled, where something was read
abbrev pub read_into : {A : Type 0} → Read (Unit {0}) → A → Read A
read_into (Ok done) a = Ok a
read_into (Err blame) a = Err blame

-- THE CODE beside the definition: what was read, or the word at fault, or want of memory
abbrev pub IsRead : {A : Type 0} → Read A → Result A Unread → Type 0
IsRead read (Ok a) = read ≡ Ok a
IsRead read (Err (At blame)) = read ≡ Err blame
IsRead read (Err Memory) = Unit {0}

-- so too where it was read into a place
abbrev pub IsReadInto : {A : Type 0} → Read A → Result (Unit {0}) Unread → A → Type 0
IsReadInto read (Ok done) a = read ≡ Ok a
IsReadInto read (Err (At blame)) a = read ≡ Err blame
IsReadInto read (Err Memory) a = Unit {0}

-- what isn't read yet of a line: its length, what is wrong where a word is missing, and the words that are left, if any
pub record Rest : Type 0 where
  pub size : ℕ
  pub short : Mistake
  pub left : Option (List ℕ)

-- the words behind the name of a line
abbrev pub behind_name : List ℕ → Mistake → Rest
behind_name text short = record { size = length text; short = short; left = other_words text }

-- a word, and its first column, from 0
pub record Word : Type 0 where
  pub column : ℕ
  pub octets : List ℕ

-- what was read, with what isn't read yet behind it
abbrev pub with_rest : {A : Type 0} → Read A → Rest → Read (A × Rest)
with_rest (Ok a) rest = Ok (a, rest)
with_rest (Err blame) rest = Err blame

-- a word that is missing is blamed right behind the line
abbrev pub word_in : Rest → Option (List ℕ) → Read Word
word_in rest None = Err (record { column = rest.size; mistake = rest.short })
word_in rest (Some words) = Ok (record { column = rest.size - length words; octets = first_word words })

abbrev pub next_word : Rest → Read Word
next_word rest = word_in rest rest.left

-- behind the next word
abbrev pub behind : Rest → Rest
behind rest = record { size = rest.size; short = rest.short; left = option_and_then other_words rest.left }

-- A PLACE of a line's form: what a word is read as there, and the mistake of one that isn't
pub record Place (A : Type 0) : Type 0 where
  pub value : List ℕ → Option A
  pub wrong : List ℕ → Mistake

abbrev pub blamed : Word → Mistake → Blame
blamed word mistake = record { column = word.column; mistake = judged word.octets mistake }

abbrev pub or_blamed : {A : Type 0} → Option A → Word → Mistake → Read A
or_blamed (Some a) word mistake = Ok a
or_blamed None word mistake = Err (blamed word mistake)

abbrev pub read_as : {A : Type 0} → Place A → Word → Read A
read_as place word = or_blamed (place.value word.octets) word (place.wrong word.octets)

-- the next word, in this place
abbrev pub next_at : {A : Type 0} → Place A → Rest → Read A
next_at place rest = read_then (read_as place) (next_word rest)

-- a place that may be left out at a line's end
abbrev pub next_if : {A : Type 0} → Place A → A → Rest → Option (List ℕ) → Read A
next_if place usual rest None = Ok usual
next_if place usual rest (Some words) = next_at place rest

abbrev pub next_or : {A : Type 0} → Place A → A → Rest → Read A
next_or place usual rest = next_if place usual rest rest.left

-- no word is left
abbrev pub surplus_in : Read Word → Read (Unit {0})
surplus_in (Ok word) = Err (blamed word Surplus)
surplus_in (Err missing) = Ok tt

abbrev pub ended : Rest → Read (Unit {0})
ended rest = surplus_in (next_word rest)

-- FORMS: a place, and then the rest of the form, by what was read; and the line's end
abbrev pub at_place : {A B : Type 0} → Place A → (A → Rest → Read B) → Rest → Read B
at_place place form rest = read_then (λ a. form a (behind rest)) (next_at place rest)

abbrev pub at_place_or : {A B : Type 0} → Place A → A → (A → Rest → Read B) → Rest → Read B
at_place_or place usual form rest = read_then (λ a. form a (behind rest)) (next_or place usual rest)

abbrev pub at_end : {A : Type 0} → A → Rest → Read A
at_end a rest = read_into (ended rest) a
