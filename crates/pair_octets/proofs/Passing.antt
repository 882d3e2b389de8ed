-- WHAT PASSES ON LINES (`every_unit_is_heard`): at both ends all is as it was left by the turns so far (OneEnd.antt), and each line
-- keeps order: what was under way at first, and then what the one end put, is what the other took, and then what is under way. A
-- step keeps it (`turn_passes`, `command_passes`, `ask_passes`), so steps do, by induction (`passes`).
use Rattle.std.proofs.Common.{refl, sym, ap, subst, arith, ◌≡◌, ◌∙◌, ◌<◌, ◌==◌, ℕ, zero, suc, Bool, true, false, List, [], ◌∷◌, ◌++◌, length, map, Option, Some, None, slice_get, slice_set, append_assoc}
use Rattle.std.proofs.lemmas.List.{append-nil, length-map, length-set}
use Rattle.std.proofs.lemmas.Bool.Decides.{nat_tests}
use Rattle.std.proofs.lemmas.Grind.{flat_map-append}
use Rattle.std.proofs.lemmas.Option.{same_Some}
use Rattle.std.specs.Option.{option_to_list}
use Rattle.set_events.specs.declared.event.Actor.{Actor}
use Rattle.set_events.specs.declared.event.Event.{Event}
use Rattle.set_model.specs.Sound.{IsSettings}
use Rattle.set_model.specs.State.{State, opened_with, settings_of}
use Rattle.set_model.proofs.Lists.{at_map, each_set, present}
use Rattle.set_model.proofs.Soundness.{opened_sound}
use Rattle.set_octets.specs.Octets.{AskedInOctets}
use Rattle.term_bench.specs.Ends.{AtLink, BenchState, new_bench, new_link, new_links, told_at}
use Rattle.term_bench.proofs.BenchLemmas.{ended_size, there_is}
use Rattle.term_model.specs.Runs.{Doing, marks_of, octets_in, octets_out, units_of}
use Rattle.term_model.specs.declared.command.Command.{Command}
use Rattle.term_model.specs.declared.timers.Timers.{Timers}
use Rattle.pair_steps.specs.declared.step.End.{End}
use Rattle.pair_steps.specs.declared.step.End.TheVariants.{A, B}
use Rattle.pair_octets.specs.Wires.{Wires, Sides, AreFitting, CommandsIf, Happen, Happens, IsAsked, IsRun, TakesCommand, TakesTurn, idle_line, is_refused, new_wires, seen_from}
use Rattle.pair_octets.specs.Passing.{ArePassed, AreIntact, EachUnitIsHeard, IsAskedApart, IsIntact, IsNarrowEnd, IsOnIntactLines, all_turns, doing_in, other, turns_if, turns_in}
use Rattle.pair_octets.specs.declared.step.EndConfig.{EndConfig}
use Rattle.pair_octets.specs.declared.step.LineLengths.{LineLengths}
use Rattle.pair_octets.specs.declared.step.WireStep.{WireStep}
use Rattle.pair_octets.specs.declared.step.WireStep.TheVariants.{Turn, Command as CommandStep, Ask, Damage}
use Rattle.pair_octets.proofs.OneEnd.{EachLink, IsEnd, IsLink, IsSet, TurnKept, asked_is, ended_each, new_kept, told_kept, turn_kept}
use Rattle.pair_octets.proofs.Hearing.{IsLongEnough, hears_all}
use Rattle.pair_octets.proofs.Seen.{length-new_links}

-- a line keeps order
abbrev pub IsFifo : ℕ → List Doing → List Doing → List ℕ → Type 0
IsFifo idle sends hears line = idle_line idle ++ octets_out sends ≡ octets_in hears ++ line

abbrev pub EachLine : (ℕ → List ℕ → Type 0) → List (List ℕ) → Type 0
EachLine P lines = (n : ℕ) (line : List ℕ) → slice_get lines n ≡ Some line → P n line

pub record IsPassing (count : ℕ) (near far : ℕ → List Doing) (to_near to_far : ℕ → ℕ) (s : Sides) : Type 0 where
  pub near_end : IsEnd near s.near
  pub far_end : IsEnd far s.far
  pub near_line : EachLine (λ n line. IsFifo (to_near n) (far n) (near n) line) s.to_near
  pub far_line : EachLine (λ n line. IsFifo (to_far n) (near n) (far n) line) s.to_far
  pub near_links : length s.near.links ≡ count
  pub far_links : length s.far.links ≡ count
  pub near_lines : length s.to_near ≡ count
  pub far_lines : length s.to_far ≡ count

abbrev pub flip : Sides → Sides
flip s = record { near = s.far; far = s.near; to_near = s.to_far; to_far = s.to_near }

pub flips : (count : ℕ) (near far : ℕ → List Doing) (i j : ℕ → ℕ) (s : Sides) → IsPassing count near far i j s → IsPassing count far near j i (flip s)
flips count near far i j s p = record {
  near_end = p.far_end;
  far_end = p.near_end;
  near_line = p.far_line;
  far_line = p.near_line;
  near_links = p.far_links;
  far_links = p.near_links;
  near_lines = p.far_lines;
  far_lines = p.near_lines;
}

pub end_same : (near also : ℕ → List Doing) (bench : BenchState) → ((n : ℕ) → near n ≡ also n) → IsEnd near bench → IsEnd also bench
end_same near also bench same is = record {
  set = is.set;
  links = λ n at there. subst (λ (ds : List Doing). IsLink ds at) (same n) (is.links n at there);
}

-- told by other words
same_passing : (count : ℕ) (near far near' far' : ℕ → List Doing) (i j : ℕ → ℕ) (s : Sides) → ((n : ℕ) → near n ≡ near' n)
    → ((n : ℕ) → far n ≡ far' n) → IsPassing count near far i j s → IsPassing count near' far' i j s
same_passing count near far near' far' i j s x y p = record {
  near_end = end_same near near' s.near x p.near_end;
  far_end = end_same far far' s.far y p.far_end;
  near_line = λ n line there. subst (λ (ds : List Doing). IsFifo (i n) (far' n) ds line) (x n)
      (subst (λ (ds : List Doing). IsFifo (i n) ds (near n) line) (y n) (p.near_line n line there));
  far_line = λ n line there. subst (λ (ds : List Doing). IsFifo (j n) (near' n) ds line) (y n)
      (subst (λ (ds : List Doing). IsFifo (j n) ds (far n) line) (x n) (p.far_line n line there));
  near_links = p.near_links;
  far_links = p.far_links;
  near_lines = p.near_lines;
  far_lines = p.far_lines;
}

-- A TURN.
one_is : (link : ℕ) (doing : Doing) (ds : List Doing) → ds ++ doing ∷ [] ≡ ds ++ turns_if (link == link) doing
one_is link doing ds = let same : (link == link) ≡ true = grind (arith, nat_tests) in ap (λ b. ds ++ turns_if b doing) (sym same)

none_is : (link m : ℕ) (doing : Doing) (ds : List Doing) → (link == m) ≡ false → ds ≡ ds ++ turns_if (m == link) doing
none_is link m doing ds other =
    let same : (m == link) ≡ false = grind (arith, nat_tests, other) in
    sym (append-nil ds) ∙ ap (λ b. ds ++ turns_if b doing) (sym same)

-- the end whose turn it is
module _ (link : ℕ) (old new : Sides) (near : ℕ → List Doing) (takes : TakesTurn link old new) (p : IsEnd near old.near) where
  abbrev done_then : ℕ → List Doing
  done_then n = near n ++ turns_if (n == link) (doing_in link old new takes)

  end_kept : TurnKept (near link) (doing_in link old new takes) takes.turns.now new.near.set.state
  end_kept = turn_kept takes.octet _ old.near.set.state new.near.set.state takes.turns.was takes.turns.now takes.turn.put takes.turns.takes.entries takes.unit
      (near link) takes.turns.takes.by_octet (p.links link takes.turns.was takes.turns.is_at) p.set

  links_kept : EachLink (λ n at. IsLink (done_then n) at) new.near.links
  links_kept n at there =
      ended_each (λ m y. IsLink (done_then m) y) (λ m y is. told_kept _ y Command.Stop is) 0 old.near.set.state new.near.set.state
      (slice_set old.near.links link takes.turns.now)
      (each_set (λ m y. IsLink (done_then m) y) old.near.links link takes.turns.now
      (subst (λ (ds : List Doing). IsLink ds takes.turns.now) (one_is link (doing_in link old new takes) (near link)) end_kept.link)
      (λ m y apart is. subst (λ (ds : List Doing). IsLink ds y) (none_is link m (doing_in link old new takes) (near m) apart) (p.links m y is)))
      n at (subst (λ (ls : List AtLink). slice_get ls n ≡ Some at) takes.turns.links_are there)

  pub turn_end : IsEnd (λ n. near n ++ turns_if (n == link) (doing_in link old new takes)) new.near
  turn_end = record { set = end_kept.set; links = links_kept }

turn_passes : (count link : ℕ) (old new : Sides) (near far : ℕ → List Doing) (i j : ℕ → ℕ) (takes : TakesTurn link old new)
    → IsPassing count near far i j old → IsPassing count (λ n. near n ++ turns_if (n == link) (doing_in link old new takes)) far i j new
turn_passes count link old new near far i j takes p = record {
  near_end = turn_end link old new near takes p.near_end;
  far_end = subst (λ (b : BenchState). IsEnd far b) (sym takes.far_is) p.far_end;
  near_line = λ n line there.
      each_set (λ m x. IsFifo (i m) (far m) (near m ++ turns_if (m == link) doing) x) old.to_near link takes.rest coming
      (λ m x apart at. subst (λ (ds : List Doing). IsFifo (i m) (far m) ds x) (none_is link m doing (near m) apart) (p.near_line m x at))
      n line (subst (λ (ls : List (List ℕ)). slice_get ls n ≡ Some line) takes.to_near_is there);
  far_line = λ n line there.
      each_set (λ m x. IsFifo (j m) (near m ++ turns_if (m == link) doing) (far m) x) old.to_far link (takes.on ++ takes.turn.put ∷ []) going
      (λ m x apart at. subst (λ (ds : List Doing). IsFifo (j m) ds (far m) x) (none_is link m doing (near m) apart) (p.far_line m x at))
      n line (subst (λ (ls : List (List ℕ)). slice_get ls n ≡ Some line) takes.to_far_is there);
  near_links = ap (λ (ls : List AtLink). length ls) takes.turns.links_are
      ∙ ended_size old.near.set.state new.near.set.state (slice_set old.near.links link takes.turns.now)
      ∙ length-set old.near.links link takes.turns.now ∙ p.near_links;
  far_links = ap (λ (b : BenchState). length b.links) takes.far_is ∙ p.far_links;
  near_lines = ap (λ (ls : List (List ℕ)). length ls) takes.to_near_is ∙ length-set old.to_near link takes.rest ∙ p.near_lines;
  far_lines = ap (λ (ls : List (List ℕ)). length ls) takes.to_far_is ∙ length-set old.to_far link (takes.on ++ takes.turn.put ∷ []) ∙ p.far_lines;
}
  where
    doing : Doing
    doing = doing_in link old new takes

    coming : IsFifo (i link) (far link) (near link ++ turns_if (link == link) doing) takes.rest
    coming =
        subst (λ (ds : List Doing). IsFifo (i link) (far link) ds takes.rest) (one_is link doing (near link))
        (p.near_line link (takes.octet ∷ takes.rest) takes.comes
        ∙ sym (append_assoc (octets_in (near link)) (takes.octet ∷ []) takes.rest)
        ∙ ap (λ (os : List ℕ). os ++ takes.rest) (sym (flat_map-append (λ (d : Doing). option_to_list d.octet) (near link) (doing ∷ []))))

    going : IsFifo (j link) (near link ++ turns_if (link == link) doing) (far link) (takes.on ++ takes.turn.put ∷ [])
    going =
        subst (λ (ds : List Doing). IsFifo (j link) ds (far link) (takes.on ++ takes.turn.put ∷ [])) (one_is link doing (near link))
        (ap (λ (os : List ℕ). idle_line (j link) ++ os) (flat_map-append (λ (d : Doing). d.put) (near link) (doing ∷ []))
        ∙ sym (append_assoc (idle_line (j link)) (octets_out (near link)) (takes.turn.put ∷ []))
        ∙ ap (λ (os : List ℕ). os ++ takes.turn.put ∷ []) (p.far_line link takes.on takes.goes)
        ∙ append_assoc (octets_in (far link)) takes.on (takes.turn.put ∷ []))

-- A COMMAND, and what is asked.
near_passes : (count : ℕ) (old new : Sides) (near far : ℕ → List Doing) (i j : ℕ → ℕ) → IsEnd near new.near
    → length new.near.links ≡ length old.near.links → new.far ≡ old.far → new.to_near ≡ old.to_near → new.to_far ≡ old.to_far
    → IsPassing count near far i j old → IsPassing count near far i j new
near_passes count old new near far i j is links far_is to_near_is to_far_is p = record {
  near_end = is;
  far_end = subst (λ (b : BenchState). IsEnd far b) (sym far_is) p.far_end;
  near_line = λ n line there. p.near_line n line (subst (λ (ls : List (List ℕ)). slice_get ls n ≡ Some line) to_near_is there);
  far_line = λ n line there. p.far_line n line (subst (λ (ls : List (List ℕ)). slice_get ls n ≡ Some line) to_far_is there);
  near_links = links ∙ p.near_links;
  far_links = ap (λ (b : BenchState). length b.links) far_is ∙ p.far_links;
  near_lines = ap (λ (ls : List (List ℕ)). length ls) to_near_is ∙ p.near_lines;
  far_lines = ap (λ (ls : List (List ℕ)). length ls) to_far_is ∙ p.far_lines;
}

pub record Told (near : ℕ → List Doing) (old new : BenchState) : Type 0 where
  pub is : IsEnd near new
  pub links : length new.links ≡ length old.links

pub told_so : (refused : Bool) (link : ℕ) (command : Command) (near : ℕ → List Doing) (old new : BenchState) → CommandsIf refused link command old new
    → IsEnd near old → Told near old new
told_so true link command near old new same is = record {
  is = subst (λ (b : BenchState). IsEnd near b) (sym same) is;
  links = ap (λ (b : BenchState). length b.links) same;
}
told_so false link command near old new told is = record {
  is = record {
    set = subst (λ s. IsSet s) (ap (λ s. s.state) (sym told.set_is)) is.set;
    links = λ n at there.
        each_set (λ m y. IsLink (near m) y) old.links link (told_at command told.was)
        (told_kept (near link) told.was command (is.links link told.was told.is_at)) (λ m y apart at. is.links m y at)
        n at (subst (λ (ls : List AtLink). slice_get ls n ≡ Some at) told.links_are there);
  };
  links = ap (λ (ls : List AtLink). length ls) told.links_are ∙ length-set old.links link (told_at command told.was);
}

command_passes : (count link : ℕ) (command : Command) (old new : Sides) (near far : ℕ → List Doing) (i j : ℕ → ℕ) → TakesCommand link command old new
    → IsPassing count near far i j old → IsPassing count near far i j new
command_passes count link command old new near far i j takes p =
    let told = told_so (is_refused link command old.near) link command near old.near new.near takes.commands p.near_end in
    near_passes count old new near far i j told.is told.links takes.only.far_is takes.only.to_near_is takes.only.to_far_is p

asked_in : (event : Event) → IsAskedApart event → AskedInOctets event
asked_in (Event.Offer body) apart = apart
asked_in Event.Take apart = tt
asked_in (Event.Find number) apart = tt
asked_in (Event.Next link) apart = absurd apart
asked_in (Event.Heard link unit) apart = absurd apart
asked_in (Event.Up link) apart = tt
asked_in (Event.Down link) apart = tt
asked_in (Event.DownBlind link) apart = tt
asked_in (Event.NoAnswer link) apart = tt
asked_in (Event.Timed link) apart = tt
asked_in (Event.Restore link) apart = tt
asked_in (Event.Redeclare link) apart = tt
asked_in (Event.BackTimeout link) apart = tt
asked_in (Event.Test link) apart = tt

pub asked_end : (who : Actor) (event : Event) (old new : Sides) (near : ℕ → List Doing) → IsAsked who event old new → IsAskedApart event
    → IsEnd near old.near → IsEnd near new.near
asked_end who event old new near asked apart is = record {
  set = subst (λ (s : State). IsSet s) (sym asked.is_step.state_is) (asked_is old.near.set.state event is.set (asked_in event apart));
  links = λ n at there. is.links n at (subst (λ (ls : List AtLink). slice_get ls n ≡ Some at) asked.links_are there);
}

ask_passes : (count : ℕ) (who : Actor) (event : Event) (old new : Sides) (near far : ℕ → List Doing) (i j : ℕ → ℕ) → IsAsked who event old new
    → IsAskedApart event → IsPassing count near far i j old → IsPassing count near far i j new
ask_passes count who event old new near far i j asked apart p =
    near_passes count old new near far i j
    (asked_end who event old new near asked apart p.near_end)
    (ap (λ (ls : List AtLink). length ls) asked.links_are) asked.only.far_is asked.only.to_near_is asked.only.to_far_is p

-- A STEP, told of end A.
abbrev pub At : ℕ → (End → ℕ → List Doing) → (End → ℕ → ℕ) → Wires → Type 0
At count ds idle w = IsPassing count (ds A) (ds B) (idle A) (idle B) (seen_from A w)

abbrev pub later : (End → ℕ → List Doing) → (step : WireStep) (old new : Wires) → Happens step old new → End → ℕ → List Doing
later ds step old new happens end n = ds end n ++ turns_in end n step old new happens

pub step_passes : (count : ℕ) (ds : End → ℕ → List Doing) (idle : End → ℕ → ℕ) (step : WireStep) (old new : Wires) (happens : Happens step old new)
    → IsIntact step → At count ds idle old → At count (later ds step old new happens) idle new
step_passes count ds idle (Turn A link) old new takes intact p =
    same_passing count _ (ds B) _ (λ n. ds B n ++ []) (idle A) (idle B) (seen_from A new) (λ n. refl) (λ n. sym (append-nil (ds B n)))
    (turn_passes count link (seen_from A old) (seen_from A new) (ds A) (ds B) (idle A) (idle B) takes p)
step_passes count ds idle (Turn B link) old new takes intact p =
    flips count _ _ (idle B) (idle A) (seen_from B new)
    (same_passing count _ (ds A) _ (λ n. ds A n ++ []) (idle B) (idle A) (seen_from B new) (λ n. refl) (λ n. sym (append-nil (ds A n)))
    (turn_passes count link (seen_from B old) (seen_from B new) (ds B) (ds A) (idle B) (idle A) takes
    (flips count (ds A) (ds B) (idle A) (idle B) (seen_from A old) p)))
step_passes count ds idle (CommandStep A link command) old new takes intact p =
    same_passing count (ds A) (ds B) _ _ (idle A) (idle B) (seen_from A new) (λ n. sym (append-nil (ds A n))) (λ n. sym (append-nil (ds B n)))
    (command_passes count link command (seen_from A old) (seen_from A new) (ds A) (ds B) (idle A) (idle B) takes p)
step_passes count ds idle (CommandStep B link command) old new takes intact p =
    same_passing count (ds A) (ds B) _ _ (idle A) (idle B) (seen_from A new) (λ n. sym (append-nil (ds A n))) (λ n. sym (append-nil (ds B n)))
    (flips count (ds B) (ds A) (idle B) (idle A) (seen_from B new)
    (command_passes count link command (seen_from B old) (seen_from B new) (ds B) (ds A) (idle B) (idle A) takes
    (flips count (ds A) (ds B) (idle A) (idle B) (seen_from A old) p)))
step_passes count ds idle (Ask A who event) old new asked intact p =
    same_passing count (ds A) (ds B) _ _ (idle A) (idle B) (seen_from A new) (λ n. sym (append-nil (ds A n))) (λ n. sym (append-nil (ds B n)))
    (ask_passes count who event (seen_from A old) (seen_from A new) (ds A) (ds B) (idle A) (idle B) asked intact p)
step_passes count ds idle (Ask B who event) old new asked intact p =
    same_passing count (ds A) (ds B) _ _ (idle A) (idle B) (seen_from A new) (λ n. sym (append-nil (ds A n))) (λ n. sym (append-nil (ds B n)))
    (flips count (ds B) (ds A) (idle B) (idle A) (seen_from B new)
    (ask_passes count who event (seen_from B old) (seen_from B new) (ds B) (ds A) (idle B) (idle A) asked intact
    (flips count (ds A) (ds B) (idle A) (idle B) (seen_from A old) p)))
step_passes count ds idle (Damage end link place octet) old new damaged intact p = absurd intact

-- STEPS.
pub passes : (count : ℕ) (steps : List WireStep) (ds : End → ℕ → List Doing) (idle : End → ℕ → ℕ) (old new : Wires) (happen : Happen steps old new)
    → AreIntact steps → At count ds idle old → At count (λ end n. ds end n ++ all_turns end n steps old new happen) idle new
passes count [] ds idle old new same intact p =
    subst (λ (w : Wires). At count (λ end n. ds end n ++ []) idle w) (sym same)
    (same_passing count (ds A) (ds B) _ _ (idle A) (idle B) (seen_from A old) (λ n. sym (append-nil (ds A n))) (λ n. sym (append-nil (ds B n))) p)
passes count (step ∷ steps) ds idle old new happen intact p =
    let now = later ds step old happen.0 happen.1 in
    same_passing count _ _ _ _ (idle A) (idle B) (seen_from A new)
    (λ n. append_assoc (ds A n) (turns_in A n step old happen.0 happen.1) (all_turns A n steps happen.0 new happen.2))
    (λ n. append_assoc (ds B n) (turns_in B n step old happen.0 happen.1) (all_turns B n steps happen.0 new happen.2))
    (passes count steps now idle happen.0 new happen.2 intact.1 (step_passes count ds idle step old happen.0 happen.1 intact.0 p))

-- AT FIRST.
abbrev pub length_at : End → Option LineLengths → ℕ
length_at end None = 0
length_at A (Some line) = line.to_a
length_at B (Some line) = line.to_b

abbrev pub idle_of : List LineLengths → End → ℕ → ℕ
idle_of lengths end n = length_at end (slice_get lengths n)

pub each_more : (P : AtLink → Type 0) (links : List AtLink) (last : AtLink) → EachLink (λ n at. P at) links → P last → EachLink (λ n at. P at) (links ++ last ∷ [])
each_more P [] last each p zero at there = subst P (same_Some last at there) p
each_more P [] last each p (suc n) at there = absurd cc
each_more P (x ∷ links) last each p zero at there = subst P (same_Some x at there) (each 0 x refl)
each_more P (x ∷ links) last each p (suc n) at there = each_more P links last (λ m y is. each (suc m) y is) p n at there

new_links_kept : (lengths : Timers) (n : ℕ) → EachLink (λ m at. IsLink [] at) (new_links lengths n)
new_links_kept lengths zero m at there = absurd cc
new_links_kept lengths (suc n) m at there =
    each_more (λ at. IsLink [] at) (new_links lengths n) (new_link lengths n) (new_links_kept lengths n) (new_kept n lengths) m at there

new_set_is : (config : EndConfig) → IsNarrowEnd config → IsSet (opened_with (settings_of config.set))
new_set_is config is =
    let settings : IsSettings (settings_of config.set) =
    record { some_link = config.set.has_links; at_most_16 = config.set.links_in_range; managed = config.set.management } in record {
      gives = record { sound = opened_sound (settings_of config.set) settings; settings = settings; narrow = is.narrow };
      octets = record { narrow = is.narrow; sio = is.sio; rows = tt };
    }

pub new_end_is : (config : EndConfig) → IsNarrowEnd config → IsEnd (λ n. []) (new_bench config.set config.timers)
new_end_is config is = record { set = new_set_is config is; links = λ n at there. new_links_kept config.timers config.set.links n at there }

line_is : (end : End) (f : LineLengths → ℕ) (lengths : List LineLengths) → ((n : ℕ) (l : LineLengths) → slice_get lengths n ≡ Some l → idle_of lengths end n ≡ f l)
    → EachLine (λ n line. IsFifo (idle_of lengths end n) [] [] line) (map (λ l. idle_line (f l)) lengths)
line_is end f lengths is n line there =
    let at = at_map (λ (l : LineLengths). idle_line (f l)) lengths n line there in
    append-nil (idle_line (idle_of lengths end n)) ∙ ap (λ k. idle_line k) (is n at.0 at.1) ∙ at.2

pub begins : (a b : EndConfig) (lengths : List LineLengths) → AreFitting a b lengths → IsNarrowEnd a → IsNarrowEnd b
    → At (length lengths) (λ end n. []) (idle_of lengths) (new_wires a b lengths)
begins a b lengths fitting narrow_a narrow_b = record {
  near_end = new_end_is a narrow_a;
  far_end = new_end_is b narrow_b;
  near_line = line_is A (λ l. l.to_a) lengths (λ n l there. ap (length_at A) there);
  far_line = line_is B (λ l. l.to_b) lengths (λ n l there. ap (length_at B) there);
  near_links = length-new_links a.timers a.set.links ∙ sym fitting.lines;
  far_links = length-new_links b.timers b.set.links ∙ sym fitting.links ∙ sym fitting.lines;
  near_lines = length-map lengths (λ (l : LineLengths). idle_line l.to_a);
  far_lines = length-map lengths (λ (l : LineLengths). idle_line l.to_b);
}

pub run_passes : (a b : EndConfig) (lengths : List LineLengths) (steps : List WireStep) (w : Wires) (run : IsRun a b lengths steps w)
    → IsOnIntactLines a b steps → At (length lengths) (λ end n. all_turns end n steps _ w run.happen) (idle_of lengths) w
run_passes a b lengths steps w run on =
    passes (length lengths) steps (λ end n. []) (idle_of lengths) _ w run.happen on.intact (begins a b lengths run.fitting on.narrow_a on.narrow_b)

-- THE LAW. Of what the far end sent the near one heard the first units, and it took so many octets as hold them.
pub record NearHears (idle : ℕ) (sends hears : List Doing) : Type 0 where
  pub passed : ArePassed sends hears
  pub long : IsLongEnough idle passed.heard (length (octets_in hears))

pub near_hears : (count : ℕ) (near far : ℕ → List Doing) (i j : ℕ → ℕ) (s : Sides) → IsPassing count near far i j s → (link : ℕ) → link < count
    → NearHears (i link) (far link) (near link)
near_hears count near far i j s p link within =
    let at = there_is s.near.links link (subst (λ n. link < n) (sym p.near_links) within) in
    let there = there_is s.far.links link (subst (λ n. link < n) (sym p.far_links) within) in
    let line = present s.to_near link (subst (λ n. link < n) (sym p.near_lines) within) in
    let here = p.near_end.links link at.0 at.1 in
    let far_off = p.far_end.links link there.0 there.1 in
    let heard = hears_all (i link) (units_of (far link)) (octets_out (far link)) (octets_in (near link)) line.0 there.0.terminal.bits (marks_of (near link))
    far_off.carries far_off.sends (p.near_line link line.0 line.1) here.marks in
    record {
      passed = record { heard = heard.heard; under_way = heard.later; sent_are = heard.units_are; heard_are = heard.read };
      long = heard.long;
    }

pub every_unit_is_heard : EachUnitIsHeard
every_unit_is_heard a b lengths steps w run on A link within =
    (near_hears (length lengths) _ _ (idle_of lengths A) (idle_of lengths B) (seen_from A w) (run_passes a b lengths steps w run on) link within).passed
every_unit_is_heard a b lengths steps w run on B link within =
    (near_hears (length lengths) _ _ (idle_of lengths B) (idle_of lengths A) (seen_from B w)
    (flips (length lengths) _ _ (idle_of lengths A) (idle_of lengths B) (seen_from A w) (run_passes a b lengths steps w run on)) link within).passed
