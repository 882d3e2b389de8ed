-- The indicator bits of one link, from the end that may ask for retransmission round to itself.
use Rattle.std.proofs.Common.{refl, ◌≡◌, ◌∙◌, sym, Bool, true, false, not, ◌&&◌, List, [], ◌∷◌, ◌++◌}
use Rattle.std.specs.Prelude.{if◌then◌else◌}
use Rattle.l2_basic.specs.Basic.{same}
use Rattle.l2_window.specs.Line.{Carried}

-- once turned, a bit stays so
abbrev pub Stays : Bool → Bool → Type 0
Stays true t = t ≡ true
Stays false t = Unit {0}

stays-refl : (t : Bool) → Stays t t
stays-refl true = refl
stays-refl false = tt

stays-true : (t : Bool) → Stays t true
stays-true true = refl
stays-true false = tt

stays-trans : (r s t : Bool) → Stays r s → Stays s t → Stays r t
stays-trans false s t p q = tt
stays-trans true true t p q = q
stays-trans true false t p q = absurd (cc)

-- the FIBs of a line, the next to come in front: the bit b where it has turned
abbrev pub Fibs : Bool → Bool → List Carried → Bool → Type 0
Fibs b t [] end = Stays t end
Fibs b t (unit ∷ rest) end = (s : Bool) × Stays t s × (unit.head.fib ≡ same s b) × Fibs b s rest end

abbrev pub Bibs : Bool → Bool → List Carried → Type 0
Bibs b t [] = Unit {0}
Bibs b t (unit ∷ rest) = (s : Bool) × Stays t s × (unit.head.bib ≡ same s b) × Bibs b s rest

pub fibs-lower : (b s t : Bool) (line : List Carried) (end : Bool) → Stays s t → Fibs b t line end → Fibs b s line end
fibs-lower b s t [] end p h = stays-trans s t end p h
fibs-lower b s t (u ∷ line) end p (r, q, is, rest) = (r, stays-trans s t r p q, is, rest)

pub fibs-raise : (b t : Bool) (line : List Carried) (end end' : Bool) → Stays end end' → Fibs b t line end → Fibs b t line end'
fibs-raise b t [] end end' p h = stays-trans t end end' h p
fibs-raise b t (u ∷ line) end end' p (r, q, is, rest) = (r, q, is, fibs-raise b r line end end' p rest)

pub fibs-push : (b t : Bool) (line : List Carried) (end : Bool) (unit : Carried) → Fibs b t line end → unit.head.fib ≡ same end b → Fibs b t (line ++ unit ∷ []) end
fibs-push b t [] end unit h is = (end, h, is, stays-refl end)
fibs-push b t (u ∷ line) end unit (r, q, was, rest) is = (r, q, was, fibs-push b r line end unit rest is)

pub fibs-lose : (b t : Bool) (before : List Carried) (unit : Carried) (after : List Carried) (end : Bool) → Fibs b t (before ++ unit ∷ after) end → Fibs b t (before ++ after) end
fibs-lose b t [] unit after end (r, q, is, rest) = fibs-lower b t r after end q rest
fibs-lose b t (u ∷ before) unit after end (r, q, is, rest) = (r, q, is, fibs-lose b r before unit after end rest)

pub bibs-lower : (b s t : Bool) (line : List Carried) → Stays s t → Bibs b t line → Bibs b s line
bibs-lower b s t [] p h = tt
bibs-lower b s t (u ∷ line) p (r, q, is, rest) = (r, stays-trans s t r p q, is, rest)

pub bibs-push : (b t : Bool) (line : List Carried) (unit : Carried) → Bibs b t line → unit.head.bib ≡ b → Bibs b t (line ++ unit ∷ [])
bibs-push b t [] unit h is = (true, stays-true t, is, tt)
bibs-push b t (u ∷ line) unit (r, q, was, rest) is = (r, q, was, bibs-push b r line unit rest is)

pub bibs-lose : (b t : Bool) (before : List Carried) (unit : Carried) (after : List Carried) → Bibs b t (before ++ unit ∷ after) → Bibs b t (before ++ after)
bibs-lose b t [] unit after (r, q, is, rest) = bibs-lower b t r after q rest
bibs-lose b t (u ∷ before) unit after (r, q, is, rest) = (r, q, is, bibs-lose b r before unit after rest)

-- where all have turned, an inverted bit finds that none has
not-not : (b : Bool) → not (not b) ≡ b
not-not true = refl
not-not false = refl

pub fibs-invert : (b : Bool) (line : List Carried) (end : Bool) → Fibs b true line end → Fibs (not b) false line false
fibs-invert b [] end h = tt
fibs-invert b (u ∷ line) end (true, q, is, rest) = (false, tt, is ∙ sym (not-not b), fibs-invert b line end rest)
fibs-invert b (u ∷ line) end (false, q, is, rest) = absurd (cc)

pub fibs-end : (b : Bool) (line : List Carried) (end : Bool) → Fibs b true line end → end ≡ true
fibs-end b [] end h = h
fibs-end b (u ∷ line) end (true, q, is, rest) = fibs-end b line end rest
fibs-end b (u ∷ line) end (false, q, is, rest) = absurd (cc)

pub bibs-invert : (b : Bool) (line : List Carried) → Bibs b true line → Bibs (not b) false line
bibs-invert b [] h = tt
bibs-invert b (u ∷ line) (true, q, is, rest) = (false, tt, is ∙ sym (not-not b), bibs-invert b line rest)
bibs-invert b (u ∷ line) (false, q, is, rest) = absurd (cc)

-- One end may ask, the other answers: units go out to the one that may ask, and back. Round the row
-- of its BIB, the BIBs on their way, the answering end's FIB and the FIBs on their way the bit turns
-- at most once, and not at all where nothing was asked.
pub record Bits (bib asked fib : Bool) (out back : List Carried) : Type 0 where
  pub turned : Bool
  pub fibs : Fibs bib (not asked) out turned
  pub last : fib ≡ same turned bib
  pub bibs : Bibs bib turned back

-- no FIB is abnormal
calm_by : (b asked s fib : Bool) → Stays (not asked) s → fib ≡ same s b → (not (same fib b) && not asked) ≡ false
calm_by true true true fib p e = rw e refl
calm_by true true false fib p e = rw e refl
calm_by false true true fib p e = rw e refl
calm_by false true false fib p e = rw e refl
calm_by true false true fib p e = rw e refl
calm_by false false true fib p e = rw e refl
calm_by b false false fib p e = absurd (cc)

pub calm : (bib asked fib : Bool) (unit : Carried) (out back : List Carried) → Bits bib asked fib (unit ∷ out) back → (not (same unit.head.fib bib) && not asked) ≡ false
calm bib asked fib unit out back h = calm_by bib asked h.fibs.0 unit.head.fib h.fibs.1 h.fibs.2

-- what the BIB heard makes of the FIB
fib_by : (r p q f : Bool) → r ≡ not (same p q) → f ≡ (if r then p else q) → f ≡ p
fib_by true p q f e g = g
fib_by false true true f e g = g
fib_by false false false f e g = g
fib_by false true false f e g = absurd (cc)
fib_by false false true f e g = absurd (cc)

pub heard-bib : (bib asked fib fib' resend : Bool) (unit : Carried) (out back : List Carried) → Bits bib asked fib out (unit ∷ back) → resend ≡ not (same unit.head.bib fib) → fib' ≡ (if resend then unit.head.bib else fib) → Bits bib asked fib' out back
heard-bib bib asked fib fib' resend unit out back h e f =
    let s = h.bibs.0 in
    record { turned = s; fibs = fibs-raise bib (not asked) out h.turned s h.bibs.1 h.fibs; last = fib_by resend unit.head.bib fib fib' e f ∙ h.bibs.2; bibs = h.bibs.3 }

-- what the FIB heard makes of the BIB
turned_by : (b s fib : Bool) → fib ≡ same s b → same fib b ≡ true → s ≡ true
turned_by true true fib e f = refl
turned_by false true fib e f = refl
turned_by true false fib e f = absurd (let g : same false true ≡ true = rw e at f in cc)
turned_by false false fib e f = absurd (let g : same true false ≡ true = rw e at f in cc)

heard_by : (bib asked fib bib' asked' ask current s : Bool) (unit : Carried) (out back : List Carried) (turned : Bool) → Stays (not asked) s → unit.head.fib ≡ same s bib → Fibs bib s out turned → fib ≡ same turned bib → Bibs bib turned back → same unit.head.fib bib ≡ current → (current ≡ false → ask ≡ false) → bib' ≡ (if ask then not bib else bib) → asked' ≡ (if current then ask else asked) → Bits bib' asked' fib out back
heard_by bib asked fib bib' asked' ask false s unit out back turned p is fibs last bibs c never f g =
    let e : ask ≡ false = never refl in
    let h : bib' ≡ bib = rw e at f in
    rw (h, g) (record { turned = turned; fibs = fibs-lower bib (not asked) s out turned p fibs; last = last; bibs = bibs })
heard_by bib asked fib bib' asked' false true s unit out back turned p is fibs last bibs c never f g =
    let e : s ≡ true = turned_by bib s unit.head.fib is c in
    let all : Fibs bib true out turned = rw e at fibs in
    rw (f, g) (record { turned = turned; fibs = all; last = last; bibs = bibs })
heard_by bib asked fib bib' asked' true true s unit out back turned p is fibs last bibs c never f g =
    let e : s ≡ true = turned_by bib s unit.head.fib is c in
    let all : Fibs bib true out turned = rw e at fibs in
    let t : turned ≡ true = fibs-end bib out turned all in
    let backs : Bibs bib true back = rw t at bibs in
    let now : fib ≡ bib = rw t at last in
    rw (f, g) (record { turned = false; fibs = fibs-invert bib out turned all; last = now ∙ sym (not-not bib); bibs = bibs-invert bib back backs })

pub heard-fib : (bib asked fib bib' asked' ask : Bool) (unit : Carried) (out back : List Carried) → Bits bib asked fib (unit ∷ out) back → (same unit.head.fib bib ≡ false → ask ≡ false) → bib' ≡ (if ask then not bib else bib) → asked' ≡ (if same unit.head.fib bib then ask else asked) → Bits bib' asked' fib out back
heard-fib bib asked fib bib' asked' ask unit out back h never f g =
    heard_by bib asked fib bib' asked' ask (same unit.head.fib bib) h.fibs.0 unit out back h.turned h.fibs.1 h.fibs.2 h.fibs.3 h.last h.bibs refl never f g
