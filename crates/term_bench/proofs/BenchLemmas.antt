-- The bench, where one of its links changes.
use Rattle.std.proofs.Common.{refl, arith, sym, ap, subst, ◌≡◌, ◌∙◌, ℕ, zero, suc, ◌+◌, ◌==◌, ◌<◌, ◌≤◌, Bool, true, false, not, ◌&&◌, List, [], ◌∷◌, ◌++◌, length, Option, Some, slice_get, slice_set}
use Rattle.std.specs.Prelude.{if◌then◌else◌}
use Rattle.std.proofs.Common.{get_or}
use Rattle.std.proofs.lemmas.List.{append_cancel_left}
use Rattle.std.proofs.Math.Seq.{take-append_seam}
use Rattle.std.proofs.lemmas.Option.{slice_get-get_or}
use Rattle.l2_units.specs.declared.unit.Unit.{Unit as SignalUnit}
use Rattle.link_term.specs.declared.fault.TermFault.{TermFault}
use Rattle.set_events.specs.declared.event.Actor.TheVariants.{Terminal as TerminalOf}
use Rattle.set_events.specs.declared.fault.SetFault.{SetFault}
use Rattle.set_events.specs.declared.history.Entry.{Entry}
use Rattle.set_model.proofs.Lists.{set_same}
use Rattle.set_model.specs.History.{LinkSet}
use Rattle.link_term.specs.States.{state_of}
use Rattle.term_model.specs.declared.command.Command.{Command}
use Rattle.set_model.specs.State.{State, late_at}
use Rattle.std.proofs.lemmas.Bool.{eq-eqb}
use Rattle.term_bench.specs.Late.{ended_at, ended_from, is_out, was_late}
use Rattle.term_bench.specs.Ends.{AreNumbered, AtLink, BenchState, told_at}
use Rattle.term_bench.specs.Going.{GoesOn}
use Rattle.term_bench.specs.Turns.{AreBy, Breaks, BreaksOff, TakesTurn, Turns, TurnsAlone}
use Rattle.term_bench.specs.Waiting.{Completes, Waits, waits_with}
use Rattle.l2_bits.specs.LineBits.{number_of}
use Rattle.std.proofs.Common.{drop, take}
use Rattle.term_bench.specs.declared.turn.Turn.{Turn}

-- the link that is looked up by its index
pub link_at : (links : List AtLink) (index link : ℕ) (was : AtLink) → index ≡ link → link < length links
    → was ≡ get_or links index was → slice_get links index ≡ Some was
link_at links index link was is below read =
    slice_get-get_or links index was (subst (λ n. n < length links) (sym is) below) ∙ ap (λ (at : AtLink). Some at) (sym read)

-- the turn of the link is the bench's
pub bench_turns : (link number index octet : ℕ) (old new : BenchState) (set : LinkSet) (was now : AtLink) (turn : Turn)
    (unit : Option SignalUnit) → number ≡ link → index ≡ link → set ≡ old.set → slice_get old.links index ≡ Some was
    → TakesTurn number octet set was turn unit new.set now → new.links ≡ slice_set old.links index now
    → TurnsAlone link octet old turn unit new
bench_turns link number index octet old new set was now turn unit numbered is held is_at takes links = record {
  was = was;
  now = now;
  is_at = subst (λ n. slice_get old.links n ≡ Some was) is is_at;
  takes = subst (λ n. TakesTurn n octet old.set was turn unit new.set now) numbered
      (subst (λ (s : LinkSet). TakesTurn number octet s was turn unit new.set now) held takes);
  links_are = links ∙ ap (λ n. slice_set old.links n now) is;
}

-- so it is where the turn was broken off
pub bench_breaks : (link number number' index : ℕ) (old new : BenchState) (set : LinkSet) (heard heard' : ℕ) (was now : AtLink)
    → number ≡ link → index ≡ link → set ≡ old.set → slice_get old.links index ≡ Some was
    → {faults faults' : List SetFault} {late late' : List ℕ} → GoesOn number number' set new.set heard heard' faults faults' late late' → new.links ≡ slice_set old.links index now
    → (octet : ℕ) (fault : TermFault) (entries : List Entry) → new.set.history ≡ set.history ++ entries
    → BreaksOff octet fault set new.set was now entries → Breaks link octet fault old new
bench_breaks link number number' index old new set heard heard' was now numbered is held is_at goes links octet fault entries made off = record {
  was = was;
  now = now;
  entries = entries;
  is_at = subst (λ n. slice_get old.links n ≡ Some was) is is_at;
  off = subst (λ (s : LinkSet). BreaksOff octet fault s new.set was now entries) held off;
  links_are = links ∙ ap (λ n. slice_set old.links n now) is;
  base_is = goes.base_is ∙ ap (λ (s : LinkSet). s.base) held;
  history_is = made ∙ ap (λ (s : LinkSet). s.history ++ entries) held;
  by = subst (λ (es : List Entry). AreBy (TerminalOf link) es) (append_cancel_left set.history goes.entries entries (sym goes.history_is ∙ made))
      (subst (λ n. AreBy (TerminalOf n) goes.entries) numbered goes.by);
}

-- where nothing was done the bench is as it was
pub bench_same : (index : ℕ) (old new : BenchState) (set : LinkSet) (was now : AtLink) → new.set ≡ set → set ≡ old.set
    → slice_get old.links index ≡ Some was → new.links ≡ slice_set old.links index now → now ≡ was → new ≡ old
bench_same index old new set was now unchanged held is_at links same =
    ap (λ (s : LinkSet). the_bench s new.links) (unchanged ∙ held)
    ∙ ap (λ (links : List AtLink). the_bench old.set links) links
    ∙ ap (λ (at : AtLink). the_bench old.set (slice_set old.links index at)) same
    ∙ ap (λ (links : List AtLink). the_bench old.set links) (set_same old.links index was is_at)
  where
    the_bench : LinkSet → List AtLink → BenchState
    the_bench set links = record { set = set; links = links }

-- the link that is there is one
pub one_link : (links : List AtLink) (index link : ℕ) (was at : AtLink) → index ≡ link → slice_get links index ≡ Some was
    → slice_get links link ≡ Some at → at ≡ was
one_link links index link was at is is_was is_at =
    let both : Some at ≡ Some was = sym is_at ∙ ap (λ n. slice_get links n) (sym is) ∙ is_was in cc

-- what a link's octet is whole by is the bench's
pub completes : (link index : ℕ) (bits : List Bool) (old new : BenchState) (was now : AtLink) (octet : ℕ) → index ≡ link
    → slice_get old.links index ≡ Some was → 8 ≤ length (was.waiting ++ bits) → octet ≡ number_of (take 8 (was.waiting ++ bits))
    → now ≡ waits_with (drop 8 (was.waiting ++ bits)) was → new.links ≡ slice_set old.links index now → new.set ≡ old.set
    → Completes link bits old octet new
completes link index bits old new was now octet is is_at enough octet_is waits links set = record {
  was = was;
  is_at = subst (λ n. slice_get old.links n ≡ Some was) is is_at;
  enough = enough;
  octet_is = octet_is;
  links_are = links ∙ ap (λ n. slice_set old.links n now) is ∙ ap (λ (at : AtLink). slice_set old.links link at) waits;
  set_is = set;
}

pub waits_more : (link index : ℕ) (bits : List Bool) (old new : BenchState) (was now : AtLink) → index ≡ link
    → slice_get old.links index ≡ Some was → length (was.waiting ++ bits) < 8
    → now ≡ waits_with (was.waiting ++ bits) was → new.links ≡ slice_set old.links index now → new.set ≡ old.set
    → Waits link bits old new
waits_more link index bits old new was now is is_at few other links set = record {
  was = was;
  is_at = subst (λ n. slice_get old.links n ≡ Some was) is is_at;
  few = few;
  links_are = links ∙ ap (λ n. slice_set old.links n now) is ∙ ap (λ (at : AtLink). slice_set old.links link at) other;
  set_is = set;
}

-- A LATE ORDER ENDS AN ALIGNMENT: of the links so many are done with
length_ended : (link : ℕ) (s t : State) (links : List AtLink) → length (ended_from link s t links) ≡ length links
length_ended link s t [] = refl
length_ended link s t (at ∷ links) = ap suc (length_ended (suc link) s t links)

pub ended_size : (s t : State) (links : List AtLink) → length (ended_from 0 s t links) ≡ length links
ended_size s t links = length_ended 0 s t links

-- one more is
pub ended_next : (link : ℕ) (s t : State) (links : List AtLink) (place : ℕ) (at : AtLink) (number : ℕ) → number ≡ link + place
    → slice_get links place ≡ Some at
    → slice_set (ended_from link s t (take place links) ++ drop place links) place (ended_at number s t at)
    ≡ ended_from link s t (take (suc place) links) ++ drop (suc place) links
ended_next link s t [] place at number is e = absurd cc
ended_next link s t (x ∷ links) zero at number is e =
    let same : at ≡ x = cc in
    let here : number ≡ link = omega (arith, is) in
    ap (λ (n : ℕ). ended_at n s t at ∷ links) here ∙ ap (λ (y : AtLink). ended_at link s t y ∷ links) same
ended_next link s t (x ∷ links) (suc place) at number is e =
    ap (λ (ls : List AtLink). ended_at link s t x ∷ ls) (ended_next (suc link) s t links place at number (omega (arith, is)) e)

pub ended_there : (link : ℕ) (s t : State) (links : List AtLink) (place : ℕ) (at : AtLink) → slice_get links place ≡ Some at
    → slice_get (ended_from link s t (take place links) ++ drop place links) place ≡ Some at
ended_there link s t [] place at e = absurd cc
ended_there link s t (x ∷ links) zero at e = e
ended_there link s t (x ∷ links) (suc place) at e = ended_there (suc link) s t links place at e

-- a link that is told to stop has the number that it had
ended_number : (link : ℕ) (s t : State) (at : AtLink) → (ended_at link s t at).terminal.link ≡ at.terminal.link
ended_number link s t at = go (was_late link s t && not (is_out (state_of at.terminal)))
  where
    go : (b : Bool) → (if b then told_at Command.Stop at else at).terminal.link ≡ at.terminal.link
    go true = refl
    go false = refl

ended_numbered : (link : ℕ) (s t : State) (links : List AtLink) → ((n : ℕ) (at : AtLink) → slice_get links n ≡ Some at → at.terminal.link ≡ link + n)
    → (n : ℕ) (at : AtLink) → slice_get (ended_from link s t links) n ≡ Some at → at.terminal.link ≡ link + n
ended_numbered link s t [] each n at e = absurd cc
ended_numbered link s t (x ∷ links) each zero at e = let same : ended_at link s t x ≡ at = cc in sym (ap (λ (a : AtLink). a.terminal.link) same) ∙ ended_number link s t x ∙ each 0 x refl
ended_numbered link s t (x ∷ links) each (suc n) at e =
    ended_numbered (suc link) s t links (λ m y there. each (suc m) y there ∙ omega arith) n at e ∙ omega arith

pub numbered_ended : (s t : State) (links : List AtLink) → AreNumbered links → AreNumbered (ended_from 0 s t links)
numbered_ended s t links numbered n at e =
    let from_none : (m : ℕ) → m ≡ 0 + m = λ m. omega arith in
    ended_numbered 0 s t links (λ m y there. numbered m y there ∙ from_none m) n at e ∙ sym (from_none n)

pub turns_end : (link octet : ℕ) (old mid new : BenchState) (turn : Turn) (unit : Option SignalUnit) → TurnsAlone link octet old turn unit mid
    → new.set ≡ mid.set → new.links ≡ ended_from 0 old.set.state mid.set.state mid.links → Turns link octet old turn unit new
turns_end link octet old mid new turn unit a set links = record {
  was = a.was;
  now = a.now;
  is_at = a.is_at;
  takes = subst (λ (s : LinkSet). TakesTurn link octet old.set a.was turn unit s a.now) (sym set) a.takes;
  links_are = links ∙ ap (λ (ls : List AtLink). ended_from 0 old.set.state mid.set.state ls) a.links_are
      ∙ ap (λ (s : LinkSet). ended_from 0 old.set.state s.state (slice_set old.links link a.now)) (sym set);
}

pub there_is : (links : List AtLink) (place : ℕ) → place < length links → (at : AtLink) × (slice_get links place ≡ Some at)
there_is [] place few = absurd (omega (arith, few))
there_is (x ∷ links) zero few = (x, refl)
there_is (x ∷ links) (suc place) few = there_is links place (omega (arith, few))

-- whether a link is told to stop
pub not_late : (link : ℕ) (s t : State) (at : AtLink) → late_at link t ≡ late_at link s → ended_at link s t at ≡ at
not_late link s t at same = let equal = eq-eqb (late_at link t) (late_at link s) same in rw equal refl

pub is_out_already : (link : ℕ) (s t : State) (at : AtLink) → is_out (state_of at.terminal) ≡ true → ended_at link s t at ≡ at
is_out_already link s t at out = rw out (go (was_late link s t))
  where
    go : (b : Bool) → (if b && false then told_at Command.Stop at else at) ≡ at
    go true = refl
    go false = refl

pub is_ended : (link : ℕ) (s t : State) (at : AtLink) → (late_at link t == late_at link s) ≡ false → is_out (state_of at.terminal) ≡ false
    → ended_at link s t at ≡ told_at Command.Stop at
is_ended link s t at late runs = rw (late, runs) refl

-- so one more is done with
module _ (s t : State) (xs ys : List AtLink) (place : ℕ) (at : AtLink) (there : slice_get xs place ≡ Some at)
    (done : ys ≡ ended_from 0 s t (take place xs) ++ drop place xs) where
  one_more : place ≡ 0 + place
  one_more = omega arith

  next : suc place ≡ place + 1
  next = omega arith

  pub here_now : slice_get ys place ≡ Some at
  here_now = ap (λ (ls : List AtLink). slice_get ls place) done ∙ ended_there 0 s t xs place at there

  pub one_ended : (now : AtLink) → now ≡ ended_at place s t at → slice_set ys place now ≡ ended_from 0 s t (take (place + 1) xs) ++ drop (place + 1) xs
  one_ended now is =
      ap (λ (ls : List AtLink). slice_set ls place now) done
      ∙ ap (λ (y : AtLink). slice_set (ended_from 0 s t (take place xs) ++ drop place xs) place y) is
      ∙ ended_next 0 s t xs place at place one_more there
      ∙ ap (λ (n : ℕ). ended_from 0 s t (take n xs) ++ drop n xs) next

  pub one_kept : ended_at place s t at ≡ at → ys ≡ ended_from 0 s t (take (place + 1) xs) ++ drop (place + 1) xs
  one_kept kept = sym (set_same ys place at here_now) ∙ one_ended at (sym kept)

-- the links are put back where they were
pub put_back : (s t : State) (new now items : List AtLink) (n : ℕ) → new ≡ ended_from 0 s t now → now ≡ items → length now ≡ n
    → take n (new ++ drop (length new) items) ≡ ended_from 0 s t items
put_back s t new now items n ended value many =
    let size : n ≡ length new = sym many ∙ sym (ended_size s t now) ∙ ap length (sym ended) in
    ap (λ (m : ℕ). take m (new ++ drop (length new) items)) size ∙ take-append_seam new (drop (length new) items)
    ∙ ended ∙ ap (ended_from 0 s t) value
