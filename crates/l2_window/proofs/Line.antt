-- Units on their way, with the counts at which they were sent.
use Rattle.std.proofs.Common.{arith, ◌≡◌, ℕ, ◌+◌, ◌%◌, ◌<◌, ◌≤◌, Option, Some, None, List, [], ◌∷◌, ◌++◌, length, length-append, zero, suc}
use Rattle.std.specs.Prelude.{slice_get}
use Rattle.l2_window.specs.Line.{Carried}
use Rattle.l2_window.specs.Window.{Profile, fsn_count, most_unacked, fsn_before_first}

-- of a link with this profile
module _ (p : Profile) where
  -- so many had been sent when a unit left, and an MSU has the FSN of its message's place
  abbrev pub IsSent : ℕ → List ℕ → ℕ → Option ℕ → Type 0
  IsSent high sent fsn None = fsn ≡ (high + fsn_before_first p) % fsn_count p
  IsSent high sent fsn (Some message) = (place : ℕ) × (place < high) × (high ≤ place + most_unacked p) × (fsn ≡ place % fsn_count p) × (slice_get sent place ≡ Some message)

  abbrev pub AreAhead : ℕ → List ℕ → List Carried → Type 0
  AreAhead low sent [] = low ≤ length sent
  AreAhead low sent (unit ∷ rest) = (high : ℕ) × (low ≤ high) × IsSent high sent unit.head.fsn unit.message × AreAhead high sent rest

  -- so many had been accepted when a unit left, and its BSN tells how many
  abbrev pub AreBehind : ℕ → ℕ → List Carried → Type 0
  AreBehind low top [] = low ≤ top
  AreBehind low top (unit ∷ rest) = (count : ℕ) × (low ≤ count) × (unit.head.bsn ≡ (count + fsn_before_first p) % fsn_count p) × AreBehind count top rest

  pub slice_get-more : (xs ys : List ℕ) (i x : ℕ) → slice_get xs i ≡ Some x → slice_get (xs ++ ys) i ≡ Some x
  slice_get-more [] ys i x e = absurd (cc)
  slice_get-more (y ∷ xs) ys zero x e = e
  slice_get-more (y ∷ xs) ys (suc i) x e = slice_get-more xs ys i x e

  pub sent-more : (high : ℕ) (sent more : List ℕ) (fsn : ℕ) (message : Option ℕ) → IsSent high sent fsn message → IsSent high (sent ++ more) fsn message
  sent-more high sent more fsn None h = h
  sent-more high sent more fsn (Some m) (place, below, near, number, there) = (place, below, near, number, slice_get-more sent more place m there)

  pub ahead-low : (low : ℕ) (sent : List ℕ) (line : List Carried) → AreAhead low sent line → low ≤ length sent
  ahead-low low sent [] h = h
  ahead-low low sent (u ∷ line) (high, above, is, rest) = omega (arith, ahead-low high sent line rest)

  pub ahead-lower : (low low' : ℕ) (sent : List ℕ) (line : List Carried) → low' ≤ low → AreAhead low sent line → AreAhead low' sent line
  ahead-lower low low' sent [] e h = omega arith
  ahead-lower low low' sent (u ∷ line) e (high, above, is, rest) = (high, omega arith, is, rest)

  pub ahead-push : (low : ℕ) (sent more : List ℕ) (line : List Carried) (unit : Carried) → AreAhead low sent line → IsSent (length (sent ++ more)) (sent ++ more) unit.head.fsn unit.message → AreAhead low (sent ++ more) (line ++ unit ∷ [])
  ahead-push low sent more [] unit h is = (length (sent ++ more), omega (arith, length-append sent more), is, omega arith)
  ahead-push low sent more (u ∷ line) unit (high, above, was, rest) is = (high, above, sent-more high sent more u.head.fsn u.message was, ahead-push high sent more line unit rest is)

  pub ahead-lose : (low : ℕ) (sent : List ℕ) (before : List Carried) (unit : Carried) (after : List Carried) → AreAhead low sent (before ++ unit ∷ after) → AreAhead low sent (before ++ after)
  ahead-lose low sent [] unit after (high, above, is, rest) = ahead-lower high low sent after above rest
  ahead-lose low sent (u ∷ before) unit after (high, above, is, rest) = (high, above, is, ahead-lose high sent before unit after rest)

  pub behind-low : (low top : ℕ) (line : List Carried) → AreBehind low top line → low ≤ top
  behind-low low top [] h = h
  behind-low low top (u ∷ line) (count, above, is, rest) = omega (arith, behind-low count top line rest)

  pub behind-lower : (low low' top : ℕ) (line : List Carried) → low' ≤ low → AreBehind low top line → AreBehind low' top line
  behind-lower low low' top [] e h = omega arith
  behind-lower low low' top (u ∷ line) e (count, above, is, rest) = (count, omega arith, is, rest)

  pub behind-raise : (low top top' : ℕ) (line : List Carried) → top ≤ top' → AreBehind low top line → AreBehind low top' line
  behind-raise low top top' [] e h = omega arith
  behind-raise low top top' (u ∷ line) e (count, above, is, rest) = (count, above, is, behind-raise count top top' line e rest)

  pub behind-push : (low top : ℕ) (line : List Carried) (unit : Carried) → AreBehind low top line → unit.head.bsn ≡ (top + fsn_before_first p) % fsn_count p → AreBehind low top (line ++ unit ∷ [])
  behind-push low top [] unit h is = (top, h, is, omega arith)
  behind-push low top (u ∷ line) unit (count, above, was, rest) is = (count, above, was, behind-push count top line unit rest is)

  pub behind-lose : (low top : ℕ) (before : List Carried) (unit : Carried) (after : List Carried) → AreBehind low top (before ++ unit ∷ after) → AreBehind low top (before ++ after)
  behind-lose low top [] unit after (count, above, is, rest) = behind-lower count low top after above rest
  behind-lose low top (u ∷ before) unit after (count, above, is, rest) = (count, above, is, behind-lose count top before unit after rest)
