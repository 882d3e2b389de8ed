-- Zero insertion (Q.703 3.2): the content of a signal unit and its text on the line, block by block
use Rattle.std.specs.Prelude.{◌≡◌, ℕ, ◌+◌, ◌*◌, ◌≤◌, ◌==◌, Bool, true, false, not, if◌then◌else◌, List, [], ◌∷◌, ◌++◌, length, replicate}
use Rattle.l2_bits.specs.Flags.{flag}

-- k ones
abbrev pub ones : ℕ → List Bool
ones k = replicate k true

-- the content has this text on the line
pub data Stuffed : List Bool → List Bool → Type 0 where
  -- a zero is inserted after five ones
  five : {content text rest more : List Bool}
      → content ≡ ones 5 ++ rest → text ≡ ones 5 ++ false ∷ more
      → Stuffed rest more → Stuffed content text
  -- up to four ones and a zero stay as they are
  few : (k : ℕ) {content text rest more : List Bool} → k ≤ 4
      → content ≡ ones k ++ false ∷ rest → text ≡ ones k ++ false ∷ more
      → Stuffed rest more → Stuffed content text
  -- and so do up to four ones at the very end, or nothing at all
  last : (k : ℕ) {content text : List Bool} → k ≤ 4
      → content ≡ ones k → text ≡ ones k → Stuffed content text

-- the new bits are the old ones and then the content's text
pub record AppendsText (content old new : List Bool) : Type 0 where
  pub text : List Bool
  pub stuffed : Stuffed content text
  pub appended : new ≡ old ++ text

-- the text of bits before which a run of so many ones stands, at most four: a zero after each fifth one
unfoldable pub text_after : ℕ → List Bool → List Bool
text_after run [] = []
text_after run (false ∷ bits) = false ∷ text_after 0 bits
text_after run (true ∷ bits) =
    if run == 4 then true ∷ false ∷ text_after 0 bits else true ∷ text_after (run + 1) bits

-- a text without its inserted zeros, where a run of so many ones stands before it: at most five
unfoldable pub content_after : ℕ → List Bool → List Bool
content_after run [] = []
content_after run (bit ∷ bits) =
    if run == 5 then content_after 0 bits else bit ∷ content_after (if bit then run + 1 else 0) bits

-- no six ones stand in it, and it does not end in five
unfoldable pub is_text : ℕ → List Bool → Bool
is_text run [] = not (run == 5)
is_text run (false ∷ bits) = is_text 0 bits
is_text run (true ∷ bits) = if run == 5 then false else is_text (run + 1) bits

-- every content has a text
abbrev pub ContentHasText : Type 0
ContentHasText = (content : List Bool) → Stuffed content (text_after 0 content)

-- no content has two
abbrev pub ContentHasOneText : Type 0
ContentHasOneText = (content a b : List Bool) → Stuffed content a → Stuffed content b → a ≡ b

-- no text has two contents
abbrev pub TextHasOneContent : Type 0
TextHasOneContent = (a b text : List Bool) → Stuffed a text → Stuffed b text → a ≡ b

-- no flag stands in a text
abbrev pub TextHasNoFlag : Type 0
TextHasNoFlag =
    (content text before after : List Bool) → Stuffed content text → text ≡ before ++ flag ++ after → ⊥

-- at most one bit is inserted for each five
abbrev pub TextIsAtMostAFifthLonger : Type 0
TextIsAtMostAFifthLonger =
    (content text : List Bool) → Stuffed content text → 5 * length text ≤ 6 * length content
