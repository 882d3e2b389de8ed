-- WHAT IS UNDER WAY, over a step (`passes_on`): each end hears what the other sent, unit by unit (pair_octets), so what
-- is heard in a step leaves the front of what was under way, and what is sent joins it; since no step is a turn of both
-- ends. And a run is followed by one step more (`then_happens`). Used by Flushed.antt.
use Rattle.std.proofs.Common.{refl, arith, ap, sym, subst, ◌≡◌, ◌∙◌, ◌-◌, ◌⊎◌, inl, inr, ℕ, zero, suc, Bool, true, false, List, [], ◌∷◌, ◌++◌, length, map, take, drop, Option, Some, None, append-nil, append_assoc}
use Rattle.std.specs.Option.{option_to_list}
use Rattle.std.proofs.lemmas.Grind.{flat_map-append}
use Rattle.std.proofs.lemmas.List.{length-map, map-append, take-append-drop}
use Rattle.std.proofs.lemmas.Option.{same_Some}
use Rattle.l2_bits.specs.declared.marks.Mark.{Mark}
use Rattle.l2_units.specs.declared.unit.Unit.{Unit as SignalUnit}
use Rattle.term_model.specs.Hearing.{unit_in}
use Rattle.term_model.specs.Runs.{Doing, marks_of, units_of}
use Rattle.pair_steps.specs.declared.step.End.{End}
use Rattle.pair_steps.specs.declared.step.End.TheVariants.{A, B}
use Rattle.pair_octets.specs.Passing.{ArePassed, AreIntact, all_turns, other, turns_in}
use Rattle.pair_octets.specs.Wires.{Wires, Happen, Happens}
use Rattle.pair_octets.specs.declared.step.WireStep.{WireStep}
use Rattle.pair_octets.specs.declared.step.WireStep.TheVariants.{Turn, Command as CommandStep, Ask, Damage}
use Rattle.pair_wires.specs.Ways.{Carried, HearsFront, IsUnderWay, Way, carried_in, gives_unit, heard_in, joined_by, left_by, sent_by, sent_in, settled_if}

-- LISTS.
drop_both : {X : Type 0} (n : ℕ) (xs ys : List X) → drop n (xs ++ ys) ≡ drop n xs ++ drop (n - length xs) ys
drop_both zero xs ys = let none : 0 ≡ 0 - length xs = omega arith in ap (λ k. xs ++ drop k ys) none
drop_both (suc n) [] ys = let all : suc n ≡ suc n - 0 = omega arith in ap (λ k. drop k ys) all
drop_both (suc n) (x ∷ xs) ys =
    let less : n - length xs ≡ suc n - suc (length xs) = omega arith in drop_both n xs ys ∙ ap (λ k. drop n xs ++ drop k ys) less

left_off : {X : Type 0} (xs ys zs : List X) → xs ++ ys ≡ xs ++ zs → ys ≡ zs
left_off [] ys zs same = same
left_off (x ∷ xs) ys zs same = let rest : xs ++ ys ≡ xs ++ zs = cc in left_off xs ys zs rest

some_units : (carried : List Carried) → map (λ (unit : SignalUnit). Some unit) (map (λ (c : Carried). c.unit) carried) ≡ map (λ (c : Carried). Some c.unit) carried
some_units [] = refl
some_units (c ∷ carried) = ap (λ us. Some c.unit ∷ us) (some_units carried)

-- the first ones of what is under way
record IsFront (carried : List Carried) (heard under_way : List SignalUnit) : Type 0 where
  pub front : map (λ (c : Carried). c.unit) (take (length heard) carried) ≡ heard
  pub back : map (λ (c : Carried). c.unit) (drop (length heard) carried) ≡ under_way

front_is : (carried : List Carried) (heard under_way : List SignalUnit) → map (λ (c : Carried). c.unit) carried ≡ heard ++ under_way
    → IsFront carried heard under_way
front_is carried [] under_way same = record { front = refl; back = same }
front_is [] (unit ∷ heard) under_way same = absurd cc
front_is (c ∷ carried) (unit ∷ heard) under_way same =
    let here : c.unit ≡ unit = cc in
    let rest : map (λ (c : Carried). c.unit) carried ≡ heard ++ under_way = cc in
    let is = front_is carried heard under_way rest in
    record { front = ap (λ u. u ∷ map (λ (c : Carried). c.unit) (take (length heard) carried)) here ∙ ap (λ us. unit ∷ us) is.front; back = is.back }

-- MARKS THAT ALL BRING UNITS
pub heard_is : (marks : List Mark) (units : List SignalUnit) → map unit_in marks ≡ map (λ (unit : SignalUnit). Some unit) units → heard_in marks ≡ units
heard_is [] [] same = refl
heard_is [] (unit ∷ units) same = absurd cc
heard_is (mark ∷ marks) [] same = absurd cc
heard_is (mark ∷ marks) (unit ∷ units) same =
    let first : unit_in mark ≡ Some unit = cc in
    let rest : map unit_in marks ≡ map (λ (unit : SignalUnit). Some unit) units = cc in
    ap (λ (o : Option SignalUnit). option_to_list o ++ heard_in marks) first ∙ ap (λ us. unit ∷ us) (heard_is marks units rest)

-- what was heard since
record IsMore (before all : List SignalUnit) (units : List (Option SignalUnit)) : Type 0 where
  pub more : List SignalUnit
  pub all_are : all ≡ before ++ more
  pub units_are : units ≡ map (λ (unit : SignalUnit). Some unit) more

more_heard : (before all : List SignalUnit) (units : List (Option SignalUnit))
    → map (λ (unit : SignalUnit). Some unit) all ≡ map (λ (unit : SignalUnit). Some unit) before ++ units → IsMore before all units
more_heard [] all units same = record { more = all; all_are = refl; units_are = sym same }
more_heard (x ∷ before) [] units same = absurd cc
more_heard (x ∷ before) (y ∷ all) units same =
    let first : Some y ≡ Some x = cc in
    let rest : map (λ (unit : SignalUnit). Some unit) all ≡ map (λ (unit : SignalUnit). Some unit) before ++ units = cc in
    let is = more_heard before all units rest in record {
      more = is.more;
      all_are = ap (λ u. u ∷ all) (same_Some y x first) ∙ ap (λ us. x ∷ us) is.all_are;
      units_are = is.units_are;
    }

-- WHAT IS SENT
unit_sent : (unit : Option SignalUnit) (given : Bool)
    → map (λ (c : Carried). c.unit) (map (λ (u : SignalUnit). let c : Carried = record { unit = u; given = given } in c) (option_to_list unit)) ≡ option_to_list unit
unit_sent None given = refl
unit_sent (Some unit) given = refl

pub units_sent : (doings : List Doing) → map (λ (c : Carried). c.unit) (sent_in doings) ≡ units_of doings
units_sent [] = refl
units_sent (doing ∷ doings) =
    map-append (λ (c : Carried). c.unit) (sent_by doing) (sent_in doings)
    ∙ ap (λ (us : List SignalUnit). us ++ map (λ (c : Carried). c.unit) (sent_in doings)) (unit_sent doing.unit (gives_unit doing.entries))
    ∙ ap (λ (us : List SignalUnit). option_to_list doing.unit ++ us) (units_sent doings)

-- WAYS.
pub carried_left : (n : ℕ) (way : Way) → carried_in (left_by n way) ≡ drop n (carried_in way)
carried_left n way = sym (drop_both n way.old way.fresh)

pub carried_settled : (marked : Bool) (way : Way) → carried_in (settled_if marked way) ≡ carried_in way
carried_settled true way = append-nil (carried_in way)
carried_settled false way = refl

pub carried_on : (n : ℕ) (sent : List Carried) (marked : Bool) (way : Way)
    → carried_in (settled_if marked (joined_by sent (left_by n way))) ≡ drop n (carried_in way) ++ sent
carried_on n sent marked way =
    let left : Way = left_by n way in
    carried_settled marked (joined_by sent left) ∙ sym (append_assoc left.old left.fresh sent) ∙ ap (λ (cs : List Carried). cs ++ sent) (carried_left n way)

-- A STEP: turns of one end at most
pub apart : (end : End) (link : ℕ) (step : WireStep) (old new : Wires) (happens : Happens step old new)
    → (turns_in end link step old new happens ≡ []) ⊎ (turns_in (other end) link step old new happens ≡ [])
apart A link (Turn A l) old new takes = inr refl
apart A link (Turn B l) old new takes = inl refl
apart B link (Turn A l) old new takes = inl refl
apart B link (Turn B l) old new takes = inr refl
apart end link (CommandStep e l command) old new happens = inl refl
apart end link (Ask e who event) old new happens = inl refl
apart end link (Damage e l place octet) old new happens = inl refl

-- what was under way is what is heard, and what stays so; and this, and what is sent, is under way then
record Fits (was heard sent is : List SignalUnit) : Type 0 where
  pub mid : List SignalUnit
  pub front : was ≡ heard ++ mid
  pub back : is ≡ mid ++ sent

fits : (was heard sent is : List SignalUnit) → was ++ sent ≡ heard ++ is → (heard ≡ []) ⊎ (sent ≡ []) → Fits was heard sent is
fits was heard sent is same (inl none) = record {
  mid = was;
  front = ap (λ (us : List SignalUnit). us ++ was) (sym none);
  back = sym (same ∙ ap (λ (us : List SignalUnit). us ++ is) none);
}
fits was heard sent is same (inr none) = record {
  mid = is;
  front = sym (append-nil was) ∙ ap (λ (us : List SignalUnit). was ++ us) (sym none) ∙ same;
  back = sym (append-nil is) ∙ ap (λ (us : List SignalUnit). is ++ us) (sym none);
}

pub record PassesOn (sends hears sent heard : List Doing) (marked : Bool) (before : Way) : Type 0 where
  pub front : HearsFront (marks_of heard) before
  pub as_many : length (heard_in (marks_of heard)) ≡ length (marks_of heard)
  pub way : IsUnderWay (sends ++ sent) (hears ++ heard) (settled_if marked (joined_by (sent_in sent) (left_by (length (heard_in (marks_of heard))) before)))

module _ (sends hears sent heard : List Doing) (marked : Bool) (way : Way) (u : IsUnderWay sends hears way) (p : ArePassed (sends ++ sent) (hears ++ heard))
    (one : (heard ≡ []) ⊎ (sent ≡ [])) where
  abbrev marks : List Mark
  marks = marks_of heard

  now_heard : IsMore u.heard p.heard (map unit_in marks)
  now_heard =
      more_heard u.heard p.heard (map unit_in marks)
      (sym p.heard_are ∙ ap (λ (ms : List Mark). map unit_in ms) (flat_map-append (λ (d : Doing). d.marks) hears heard)
      ∙ map-append unit_in (marks_of hears) marks ∙ ap (λ (us : List (Option SignalUnit)). us ++ map unit_in marks) u.heard_are)

  abbrev more : List SignalUnit
  more = now_heard.more

  more_is : heard_in marks ≡ more
  more_is = heard_is marks more now_heard.units_are

  none_more : (heard ≡ []) ⊎ (sent ≡ []) → (more ≡ []) ⊎ (units_of sent ≡ [])
  none_more (inl none) = inl (sym more_is ∙ ap (λ (ds : List Doing). heard_in (marks_of ds)) none)
  none_more (inr none) = inr (ap (λ (ds : List Doing). units_of ds) none)

  abbrev was : List SignalUnit
  was = map (λ (c : Carried). c.unit) (carried_in way)

  fitting : Fits was more (units_of sent) p.under_way
  fitting =
      fits was more (units_of sent) p.under_way
      (left_off u.heard (was ++ units_of sent) (more ++ p.under_way)
      (sym (append_assoc u.heard was (units_of sent)) ∙ ap (λ (us : List SignalUnit). us ++ units_of sent) (sym u.sent_are)
      ∙ sym (flat_map-append (λ (d : Doing). option_to_list d.unit) sends sent) ∙ p.sent_are
      ∙ ap (λ (us : List SignalUnit). us ++ p.under_way) now_heard.all_are ∙ append_assoc u.heard more p.under_way))
      (none_more one)

  is : IsFront (carried_in way) more fitting.mid
  is = front_is (carried_in way) more fitting.mid fitting.front

  abbrev count : ℕ
  count = length (heard_in marks)

  abbrev moved : Way
  moved = joined_by (sent_in sent) (left_by count way)

  moved_is : carried_in (settled_if marked moved) ≡ drop (length more) (carried_in way) ++ sent_in sent
  moved_is = carried_on count (sent_in sent) marked way ∙ ap (λ k. drop k (carried_in way) ++ sent_in sent) (ap length more_is)

  under_way_is : p.under_way ≡ map (λ (c : Carried). c.unit) (carried_in (settled_if marked moved))
  under_way_is =
      fitting.back ∙ ap (λ (us : List SignalUnit). us ++ units_of sent) (sym is.back)
      ∙ ap (λ (us : List SignalUnit). map (λ (c : Carried). c.unit) (drop (length more) (carried_in way)) ++ us) (sym (units_sent sent))
      ∙ sym (map-append (λ (c : Carried). c.unit) (drop (length more) (carried_in way)) (sent_in sent))
      ∙ ap (λ (cs : List Carried). map (λ (c : Carried). c.unit) cs) (sym moved_is)

  pub units_under_way : units_of (sends ++ sent) ≡ p.heard ++ map (λ (c : Carried). c.unit) (carried_in (settled_if marked moved))
  units_under_way = p.sent_are ∙ ap (λ (us : List SignalUnit). p.heard ++ us) under_way_is

  pub passes_on : PassesOn sends hears sent heard marked way
  passes_on = record {
    front = record {
      heard = take (length more) (carried_in way);
      rest = drop (length more) (carried_in way);
      way_is = sym (take-append-drop (length more) (carried_in way));
      heard_are = now_heard.units_are ∙ ap (λ (us : List SignalUnit). map (λ (unit : SignalUnit). Some unit) us) (sym is.front)
          ∙ some_units (take (length more) (carried_in way));
    };
    as_many = ap length more_is ∙ sym (length-map more (λ (unit : SignalUnit). Some unit)) ∙ ap length (sym now_heard.units_are) ∙ length-map marks unit_in;
    way = record {
      heard = p.heard;
      sent_are = units_under_way;
      heard_are = p.heard_are;
    };
  }

  pub heard_more : p.heard ≡ u.heard ++ heard_in marks
  heard_more = now_heard.all_are ∙ ap (λ (us : List SignalUnit). u.heard ++ us) (sym more_is)

-- A RUN, and then a step.
pub both_intact : (first second : List WireStep) → AreIntact first → AreIntact second → AreIntact (first ++ second)
both_intact [] second intact more = more
both_intact (step ∷ first) second intact more = (intact.0, both_intact first second intact.1 more)

pub record IsThen (first : List WireStep) (step : WireStep) (old mid new : Wires) (happen : Happen first old mid) (happens : Happens step mid new) : Type 0 where
  pub all : Happen (first ++ step ∷ []) old new
  pub turns : (end : End) (link : ℕ)
      → all_turns end link (first ++ step ∷ []) old new all ≡ all_turns end link first old mid happen ++ turns_in end link step mid new happens

pub then_happens : (first : List WireStep) (step : WireStep) (old mid new : Wires) (happen : Happen first old mid) (happens : Happens step mid new)
    → IsThen first step old mid new happen happens
then_happens [] step old mid new same happens =
    let one = subst
    (λ (v : Wires). (all : Happen (step ∷ []) v new) × ((end : End) (link : ℕ) → all_turns end link (step ∷ []) v new all ≡ turns_in end link step mid new happens)) same
    ((new, happens, refl), λ end link. append-nil (turns_in end link step mid new happens)) in
    record { all = one.0; turns = one.1 }
then_happens (s ∷ first) step old mid new happen happens =
    let rest = then_happens first step happen.0 mid new happen.2 happens in record {
      all = (happen.0, happen.1, rest.all);
      turns = λ end link.
          ap (λ (ds : List Doing). turns_in end link s old happen.0 happen.1 ++ ds) (rest.turns end link)
          ∙ sym (append_assoc (turns_in end link s old happen.0 happen.1) (all_turns end link first happen.0 mid happen.2)
          (turns_in end link step mid new happens));
    }
