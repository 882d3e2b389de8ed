-- INTACT LINES SHOW AS LOSS, of which there's none (`intact_shows`): each unit under way stands where its flag ends (`Right`), so those
-- that have ended by the octet of a turn are those that are heard in it (`count_is`).
use Rattle.std.proofs.Common.{refl, arith, ap, sym, subst, ◌≡◌, ◌∙◌, ◌<◌, ◌≤◌, ◌-◌, ◌+◌, ◌*◌, ◌⊎◌, inl, inr, nat_le, ℕ, zero, suc, Bool, true, false, List, [], ◌∷◌, ◌++◌, length, map, take, drop, All, Option, Some, None, slice_get, append-nil, append_assoc, if◌then◌else◌}
use Rattle.std.proofs.lemmas.Bool.Decides.{nat_tests}
use Rattle.std.proofs.lemmas.Grind.{flat_map-append}
use Rattle.std.proofs.lemmas.List.{length-append, length-map, map-append, take-append-drop}
use Rattle.std.specs.Option.{option_to_list}
use Rattle.l2_bits.specs.Flags.{flag}
use Rattle.l2_bits.specs.LineBits.{line_bits}
use Rattle.l2_bits.specs.Marks.{AreMarks}
use Rattle.l2_bits.proofs.FlagLemmas.{length-flag}
use Rattle.l2_bits.proofs.OctetLemmas.{length-line_bits}
use Rattle.l2_units.specs.declared.unit.Unit.{Unit as SignalUnit}
use Rattle.set_model.proofs.Lists.{present}
use Rattle.term_bench.proofs.BenchLemmas.{there_is}
use Rattle.term_laws.specs.HeardLaws.{IsSendable}
use Rattle.term_laws.proofs.Heard.{All-first}
use Rattle.term_model.specs.LineLaws.{AreOnLine, CarriesUnits}
use Rattle.term_model.specs.Runs.{Doing, marks_of, octets_in, octets_out, units_of}
use Rattle.pair_steps.specs.declared.step.End.{End}
use Rattle.pair_steps.specs.declared.step.End.TheVariants.{A, B}
use Rattle.pair_octets.specs.Passing.{AreIntact, IsIntact, all_turns, other, turns_in}
use Rattle.pair_octets.specs.Streams.{AreSound}
use Rattle.pair_octets.specs.Wires.{Wires, Happen, Happens, idle_line, new_wires, seen_from}
use Rattle.pair_octets.specs.declared.step.LineLengths.{LineLengths}
use Rattle.pair_octets.specs.declared.step.WireStep.{WireStep}
use Rattle.pair_octets.specs.declared.step.WireStep.TheVariants.{Turn, Command as CommandStep, Ask, Damage}
use Rattle.pair_octets.proofs.Flushing.{each_step, first_heard, on_alone, on_front}
use Rattle.pair_octets.proofs.Passing.{At, IsPassing, NearHears, begins, flips, idle_of, later, length_at, near_hears, step_passes}
use Rattle.pair_wires.specs.Noise.{IfTurnHearsSome, IntactLinesShowAsLoss, Place, Places, ShowsAsLoss, bits_left, come_by, coming_in, counts_of, ends_of, first_places, length_to, place_by, places_after}
use Rattle.pair_wires.specs.Ways.{Carried, HearsFront, HearsSome, Way, Ways, carried_in, gives_unit, heard_in, is_marked, IsUnderWay, joined_by, left_by, no_ways, sent_in, settled_if, ways_by}
use Rattle.pair_wires.proofs.Carrying.{IfTurnComes, heard_counts, some_come, take_front}
use Rattle.pair_wires.proofs.Flushed.{in_range, one_hears}
use Rattle.pair_wires.proofs.Noise.{few_turns}
use Rattle.pair_wires.proofs.Starting.{AllPlain, AreSo, all_plain, few_links, first_so, plain_parts, step_so}
use Rattle.pair_wires.proofs.Ways.{PassesOn, apart, carried_on, heard_is, heard_more, passes_on, units_under_way}

-- WHERE THE LAST OF SOME UNITS ENDS, the first ones on a line: behind the flags of the idle line, the opening flag, and themselves
abbrev pub Ends : ℕ → List SignalUnit → ℕ → Type 0
Ends idle units bits = (line : List Bool) × AreOnLine units line × (bits ≡ 8 * idle + 8 + length line)

-- units under way stand right, behind those that were heard
abbrev pub Right : ℕ → List SignalUnit → List Carried → List ℕ → Type 0
Right idle heard [] [] = Unit {0}
Right idle heard [] (bits ∷ ends) = ⊥
Right idle heard (c ∷ cs) [] = ⊥
Right idle heard (c ∷ cs) (bits ∷ ends) = Ends idle (heard ++ c.unit ∷ []) bits × Right idle (heard ++ c.unit ∷ []) cs ends

right_drop : (idle n : ℕ) (heard : List SignalUnit) (cs : List Carried) (ends : List ℕ) → Right idle heard cs ends
    → Right idle (heard ++ map (λ (c : Carried). c.unit) (take n cs)) (drop n cs) (drop n ends)
right_drop idle zero heard cs ends right = subst (λ (us : List SignalUnit). Right idle us cs ends) (sym (append-nil heard)) right
right_drop idle (suc n) heard [] [] right = tt
right_drop idle (suc n) heard [] (bits ∷ ends) right = absurd right
right_drop idle (suc n) heard (c ∷ cs) [] right = absurd right
right_drop idle (suc n) heard (c ∷ cs) (bits ∷ ends) right =
    subst (λ (us : List SignalUnit). Right idle us (drop n cs) (drop n ends)) (append_assoc heard (c.unit ∷ []) (map (λ (c : Carried). c.unit) (take n cs)))
    (right_drop idle n (heard ++ c.unit ∷ []) cs ends right.1)

right_both : (idle : ℕ) (heard : List SignalUnit) (cs more : List Carried) (ends more_ends : List ℕ) → Right idle heard cs ends
    → Right idle (heard ++ map (λ (c : Carried). c.unit) cs) more more_ends → Right idle heard (cs ++ more) (ends ++ more_ends)
right_both idle heard [] more [] more_ends right then_so = subst (λ (us : List SignalUnit). Right idle us more more_ends) (append-nil heard) then_so
right_both idle heard [] more (bits ∷ ends) more_ends right then_so = absurd right
right_both idle heard (c ∷ cs) more [] more_ends right then_so = absurd right
right_both idle heard (c ∷ cs) more (bits ∷ ends) more_ends right then_so = (
  right.0,
  right_both idle (heard ++ c.unit ∷ []) cs more ends more_ends right.1
      (subst (λ (us : List SignalUnit). Right idle us more more_ends) (sym (append_assoc heard (c.unit ∷ []) (map (λ (c : Carried). c.unit) cs))) then_so),
)

-- HOW MANY COME: those that are heard, since all of these have ended, and the next one hasn't
module _ (idle bits : ℕ) where
  some_units : (heard : List SignalUnit) (u : SignalUnit) (more : List SignalUnit) → heard ++ u ∷ more ≡ [] → ⊥
  some_units [] u more none = absurd cc
  some_units (h ∷ heard) u more none = absurd cc

  count_is : (heard : List SignalUnit) (cs : List Carried) (ends : List ℕ) (now rest : List SignalUnit) (line : List Bool) → Right idle heard cs ends
      → map (λ (c : Carried). c.unit) cs ≡ now ++ rest → AreOnLine (heard ++ now) line → (heard ++ now ≡ []) ⊎ (8 * idle + 8 + length line ≤ bits)
      → ((u : SignalUnit) (others : List SignalUnit) → rest ≡ u ∷ others → (line : List Bool) → AreOnLine ((heard ++ now) ++ u ∷ []) line
      → 8 * idle + 8 + length line ≤ bits → ⊥)
      → come_by bits ends ≡ length now
  count_is heard [] [] [] rest line right same on long next = refl
  count_is heard [] (last ∷ ends) now rest line right same on long next = absurd right
  count_is heard (c ∷ cs) [] now rest line right same on long next = absurd right
  count_is heard [] [] (u ∷ now) rest line right same on long next = absurd cc
  count_is heard (c ∷ cs) (last ∷ ends) [] rest line right same on long next = go (nat_le last bits) refl
    where
      go : (b : Bool) → nat_le last bits ≡ b → come_by bits (last ∷ ends) ≡ 0
      go false e = ap (λ (x : Bool). if x then suc (come_by bits ends) else 0) e
      go true e =
          let within : last ≤ bits = grind (arith, nat_tests, e) in
          let at = right.0 in
          absurd (next c.unit (map (λ (c : Carried). c.unit) cs) (sym same) at.0
          (subst (λ (us : List SignalUnit). AreOnLine (us ++ c.unit ∷ []) at.0) (sym (append-nil heard)) at.1) (omega (arith, within, at.2)))
  count_is heard (c ∷ cs) (last ∷ ends) (u ∷ now) rest line right same on long next =
      let first : c.unit ≡ u = cc in
      let others : map (λ (c : Carried). c.unit) cs ≡ now ++ rest = cc in
      let at = right.0 in
      let joined : (heard ++ c.unit ∷ []) ++ now ≡ heard ++ u ∷ now =
      append_assoc heard (c.unit ∷ []) now ∙ ap (λ (x : SignalUnit). heard ++ x ∷ now) first in
      let on' : AreOnLine ((heard ++ c.unit ∷ []) ++ now) line = subst (λ (us : List SignalUnit). AreOnLine us line) (sym joined) on in
      let front = on_front (heard ++ c.unit ∷ []) now line on' in
      let same_line : at.0 ≡ front.0 = on_alone (heard ++ c.unit ∷ []) at.0 front.0 at.1 front.2 in
      let enough : 8 * idle + 8 + length line ≤ bits =
      elim long [
        | inl none ↦ absurd (some_units heard u now none)
        | inr is ↦ is
      ] in
      let within : last ≤ bits = omega (arith, enough, at.2, ap length same_line, ap length front.3, length-append front.0 front.1) in
      let is : nat_le last bits ≡ true = grind (arith, nat_tests, within) in
      let rest_is = count_is (heard ++ c.unit ∷ []) cs ends now rest line right.1 others on' (inr enough)
      (λ v more is_next next_line next_on within_bits.
      next v more is_next next_line (subst (λ (us : List SignalUnit). AreOnLine (us ++ v ∷ []) next_line) joined next_on) within_bits) in
      ap (λ (x : Bool). if x then suc (come_by bits ends) else 0) is ∙ ap suc rest_is

-- WHAT IS SENT ends where the sender's turn leaves it
sent_right : (idle : ℕ) (before : List SignalUnit) (sends : List Doing) (bits : ℕ) → length sends ≤ 1
    → ((u : SignalUnit) → units_of sends ≡ u ∷ [] → Ends idle (before ++ u ∷ []) bits) → Right idle before (sent_in sends) (ends_of sends bits)
sent_right idle before [] bits few ends = tt
sent_right idle before (d ∷ e ∷ sends) bits few ends = absurd (omega (arith, few))
sent_right idle before (d ∷ []) bits few ends = go d.unit refl
  where
    go : (unit : Option SignalUnit) → d.unit ≡ unit → Right idle before (sent_in (d ∷ [])) (ends_of (d ∷ []) bits)
    go None e =
        subst (λ (o : Option SignalUnit). Right idle before
        (map (λ (u : SignalUnit). let c : Carried = record { unit = u; given = gives_unit d.entries } in c) (option_to_list o) ++ [])
        (map (λ (u : SignalUnit). bits) (option_to_list o ++ []))) (sym e) tt
    go (Some unit) e =
        subst (λ (o : Option SignalUnit). Right idle before
        (map (λ (u : SignalUnit). let c : Carried = record { unit = u; given = gives_unit d.entries } in c) (option_to_list o) ++ [])
        (map (λ (u : SignalUnit). bits) (option_to_list o ++ []))) (sym e)
        (ends unit (ap (λ (o : Option SignalUnit). option_to_list o ++ []) e), tt)

-- OF A LINK TO AN END: what was done so far, and its place
pub record Stands (idle : ℕ) (sends hears : List Doing) (way : Way) (place : Place) : Type 0 where
  pub under : IsUnderWay sends hears way
  pub came : place.came ≡ length (octets_in hears)
  pub put : place.put ≡ idle + length (octets_out sends)
  pub right : Right idle under.heard (carried_in way) place.ends

module _ (idle : ℕ) (sends hears sent heard : List Doing) (marked : Bool) (left : ℕ) (way : Way) (place : Place) (s : Stands idle sends hears way place)
    (few_sent : length sent ≤ 1) (few_heard : length heard ≤ 1) (takes : length (octets_in heard) ≡ length heard) (puts : length (octets_out sent) ≡ length sent)
    (one : (heard ≡ []) ⊎ (sent ≡ [])) (n : NearHears idle (sends ++ sent) (hears ++ heard)) (taken line : List ℕ) (bits : List Bool)
    (left_is : left ≡ length bits) (taken_is : octets_in (hears ++ heard) ≡ taken) (fifo : idle_line idle ++ octets_out (sends ++ sent) ≡ taken ++ line)
    (carries : CarriesUnits (units_of (sends ++ sent)) (octets_out (sends ++ sent)) flag bits) (sendable : All IsSendable (units_of (sends ++ sent)))
    (marks : AreMarks [] (line_bits taken) (marks_of (hears ++ heard))) where
  abbrev p : PassesOn sends hears sent heard marked way
  p = passes_on sends hears sent heard marked way s.under n.passed one

  -- what is heard now
  abbrev now : List SignalUnit
  now = heard_in (marks_of heard)

  all_heard_is : n.passed.heard ≡ s.under.heard ++ now
  all_heard_is = heard_more sends hears sent heard marked way s.under n.passed one

  abbrev count : ℕ
  count = coming_in heard place

  -- nothing is heard without a turn
  none_heard : heard ≡ [] → now ≡ []
  none_heard none = ap (λ (ds : List Doing). heard_in (marks_of ds)) none

  abbrev front : List Carried
  front = p.front.heard

  now_is : now ≡ map (λ (c : Carried). c.unit) front
  now_is = heard_is (marks_of heard) (map (λ (c : Carried). c.unit) front) (p.front.heard_are ∙ sym (some_are front))
    where
      some_are : (cs : List Carried) → map (λ (unit : SignalUnit). Some unit) (map (λ (c : Carried). c.unit) cs) ≡ map (λ (c : Carried). Some c.unit) cs
      some_are [] = refl
      some_are (c ∷ cs) = ap (λ (us : List (Option SignalUnit)). Some c.unit ∷ us) (some_are cs)

  abbrev rest : List SignalUnit
  rest = map (λ (c : Carried). c.unit) p.front.rest

  way_units : map (λ (c : Carried). c.unit) (carried_in way) ≡ now ++ rest
  way_units =
      ap (λ (cs : List Carried). map (λ (c : Carried). c.unit) cs) p.front.way_is ∙ map-append (λ (c : Carried). c.unit) front p.front.rest
      ∙ ap (λ (us : List SignalUnit). us ++ rest) (sym now_is)

  came_then : (d : Doing) → heard ≡ d ∷ [] → 8 * suc place.came ≡ 8 * length taken
  came_then d is =
      omega (
        arith,
        s.came,
        takes,
        ap length is,
        ap length taken_is,
        ap length (flat_map-append (λ (d : Doing). option_to_list d.octet) hears heard),
        length-append (octets_in hears) (octets_in heard),
      )

  -- no more units have ended
  none_next : (u : SignalUnit) (others : List SignalUnit) → rest ≡ u ∷ others → sent ≡ [] → (l : List Bool) → AreOnLine ((s.under.heard ++ now) ++ u ∷ []) l
      → 8 * idle + 8 + length l ≤ 8 * length taken → ⊥
  none_next u others rest_is none l on enough =
      let first : List SignalUnit = (s.under.heard ++ now) ++ u ∷ [] in
      let sent_units : units_of (sends ++ sent) ≡ first ++ others =
      ap (λ (ds : List Doing). units_of (sends ++ ds)) none ∙ ap (λ (ds : List Doing). units_of ds) (append-nil sends) ∙ s.under.sent_are
      ∙ ap (λ (us : List SignalUnit). s.under.heard ++ us) (way_units ∙ ap (λ (us : List SignalUnit). now ++ us) rest_is)
      ∙ sym (append_assoc s.under.heard now (u ∷ others)) ∙ sym (append_assoc (s.under.heard ++ now) (u ∷ []) others) in
      let all = first_heard idle first others [] (octets_out (sends ++ sent)) taken line (flag ++ l) bits (marks_of (hears ++ heard))
      (record { line = l; on_line = on; same = refl })
      (subst (λ (us : List SignalUnit). CarriesUnits us (octets_out (sends ++ sent)) flag bits) sent_units carries)
      (All-first first others (subst (λ (us : List SignalUnit). All IsSendable us) sent_units sendable)) fifo marks
      (omega (arith, enough, length-append flag l, length-flag)) in
      absurd (omega (
        arith,
        ap length all.heard_are,
        length-append (map (λ (unit : SignalUnit). Some unit) first) all.later,
        length-map first (λ (unit : SignalUnit). Some unit),
        length-append (s.under.heard ++ now) (u ∷ []),
        ap length n.passed.heard_are,
        length-map n.passed.heard (λ (unit : SignalUnit). Some unit),
        ap length all_heard_is,
      ))

  pub same_count : count ≡ length now
  same_count = go heard refl
    where
      go : (ds : List Doing) → heard ≡ ds → coming_in heard place ≡ length now
      go [] none = ap (λ (ds : List Doing). coming_in ds place) none ∙ sym (ap length (none_heard none))
      go (d ∷ e ∷ ds) is = absurd (omega (arith, few_heard, ap length is))
      go (d ∷ []) is =
          let none : sent ≡ [] = elim one [
            | inl no_turn ↦ absurd (let wrong : d ∷ [] ≡ [] = sym is ∙ no_turn in cc)
            | inr none ↦ none
          ] in
          let whole = on_front (s.under.heard ++ now) rest carries.line
          (subst (λ (us : List SignalUnit). AreOnLine us carries.line)
          (ap (λ (ds : List Doing). units_of (sends ++ ds)) none ∙ ap (λ (ds : List Doing). units_of ds) (append-nil sends) ∙ s.under.sent_are
          ∙ ap (λ (us : List SignalUnit). s.under.heard ++ us) way_units ∙ sym (append_assoc s.under.heard now rest)) carries.on_line) in
          let long = n.long whole.0 (subst (λ (us : List SignalUnit). AreOnLine us whole.0) (sym all_heard_is) whole.2) in
          let many : length (octets_in (hears ++ heard)) ≡ length taken = ap length taken_is in
          ap (λ (ds : List Doing). coming_in ds place) is
          ∙ count_is idle (8 * suc place.came) s.under.heard (carried_in way) place.ends now rest whole.0 s.right way_units whole.2
          (elim long [
            | inl nothing ↦ inl (sym all_heard_is ∙ nothing)
            | inr enough ↦ inr (omega (arith, enough, many, came_then d is))
          ])
          (λ u others rest_is l on enough. none_next u others rest_is none l on (omega (arith, enough, came_then d is)))

  -- and what is under way then stands right
  abbrev way' : Way
  way' = settled_if marked (joined_by (sent_in sent) (left_by count way))

  way_same : settled_if marked (joined_by (sent_in sent) (left_by (length now) way)) ≡ way'
  way_same = ap (λ (k : ℕ). settled_if marked (joined_by (sent_in sent) (left_by k way))) (sym same_count)

  abbrev under' : IsUnderWay (sends ++ sent) (hears ++ heard) way'
  under' = record {
    heard = n.passed.heard;
    sent_are = units_under_way sends hears sent heard marked way s.under n.passed one ∙ ap (λ (w : Way). n.passed.heard ++ map (λ (c : Carried). c.unit) (carried_in w)) way_same;
    heard_are = n.passed.heard_are;
  }

  abbrev place' : Place
  place' = place_by heard sent left place

  taken_units : map (λ (c : Carried). c.unit) (take count (carried_in way)) ≡ now
  taken_units =
      ap (λ (k : ℕ). map (λ (c : Carried). c.unit) (take k (carried_in way))) (same_count ∙ ap length now_is ∙ length-map front (λ (c : Carried). c.unit))
      ∙ ap (λ (cs : List Carried). map (λ (c : Carried). c.unit) (take (length front) cs)) p.front.way_is
      ∙ ap (λ (cs : List Carried). map (λ (c : Carried). c.unit) cs) (take_front front p.front.rest) ∙ sym now_is

  last_ends : (u : SignalUnit) → units_of sent ≡ u ∷ [] → Ends idle ((n.passed.heard ++ map (λ (c : Carried). c.unit) (drop count (carried_in way))) ++ u ∷ []) (8 * place'.put + left)
  last_ends u unit_is =
      let all : units_of (sends ++ sent) ≡ (n.passed.heard ++ map (λ (c : Carried). c.unit) (drop count (carried_in way))) ++ u ∷ [] =
      flat_map-append (λ (d : Doing). option_to_list d.unit) sends sent
      ∙ ap (λ (us : List SignalUnit). us ++ units_of sent) (s.under.sent_are ∙ ap (λ (us : List SignalUnit). s.under.heard ++ us) parts
      ∙ sym (append_assoc s.under.heard now (map (λ (c : Carried). c.unit) (drop count (carried_in way))))
      ∙ ap (λ (us : List SignalUnit). us ++ map (λ (c : Carried). c.unit) (drop count (carried_in way))) (sym all_heard_is))
      ∙ ap (λ (us : List SignalUnit). (n.passed.heard ++ map (λ (c : Carried). c.unit) (drop count (carried_in way))) ++ us) unit_is in (
        carries.line,
        subst (λ (us : List SignalUnit). AreOnLine us carries.line) all carries.on_line,
        omega (
          arith,
          left_is,
          s.put,
          puts,
          ap length carries.same,
          length-append flag carries.line,
          length-flag,
          length-append (line_bits (octets_out (sends ++ sent))) bits,
          length-line_bits (octets_out (sends ++ sent)),
          ap length (flat_map-append (λ (d : Doing). d.put) sends sent),
          length-append (octets_out sends) (octets_out sent),
        ),
      )
    where
      parts : map (λ (c : Carried). c.unit) (carried_in way) ≡ now ++ map (λ (c : Carried). c.unit) (drop count (carried_in way))
      parts =
          ap (λ (cs : List Carried). map (λ (c : Carried). c.unit) cs) (sym (take-append-drop count (carried_in way)))
          ∙ map-append (λ (c : Carried). c.unit) (take count (carried_in way)) (drop count (carried_in way))
          ∙ ap (λ (us : List SignalUnit). us ++ map (λ (c : Carried). c.unit) (drop count (carried_in way))) taken_units

  pub stands_on : Stands idle (sends ++ sent) (hears ++ heard) way' place'
  stands_on = record {
    under = under';
    came = omega (
      arith,
      s.came,
      takes,
      ap length (flat_map-append (λ (d : Doing). option_to_list d.octet) hears heard),
      length-append (octets_in hears) (octets_in heard),
    );
    put = omega (
      arith,
      s.put,
      puts,
      ap length (flat_map-append (λ (d : Doing). d.put) sends sent),
      length-append (octets_out sends) (octets_out sent),
    );
    right = subst (λ (cs : List Carried). Right idle n.passed.heard cs place'.ends) (sym (carried_on count (sent_in sent) marked way))
        (right_both idle n.passed.heard (drop count (carried_in way)) (sent_in sent) (drop count place.ends) (ends_of sent (8 * place'.put + left))
        (subst (λ (us : List SignalUnit). Right idle us (drop count (carried_in way)) (drop count place.ends))
        (ap (λ (us : List SignalUnit). s.under.heard ++ us) taken_units ∙ sym all_heard_is)
        (right_drop idle count s.under.heard (carried_in way) place.ends s.right))
        (sent_right idle (n.passed.heard ++ map (λ (c : Carried). c.unit) (drop count (carried_in way))) sent (8 * place'.put + left) few_sent last_ends));
  }

-- TOLD BY THE OTHER COUNT
turn_below : (links : ℕ) (end : End) (link : ℕ) (old new : Wires) (takes : Happens (Turn end link) old new) → AreSo links old → link < links
turn_below links A link old new takes so = in_range links A old link takes.turns.was so takes.turns.is_at
turn_below links B link old new takes so = in_range links B old link takes.turns.was so takes.turns.is_at

by_counts : (links : ℕ) (step : WireStep) (old new : Wires) (happens : Happens step old new) (ways : Ways) (places : Places) → AreSo links old
    → IfTurnComes step old new happens (heard_counts step old new happens) ways
    → ((end : End) (link : ℕ) → link < links → counts_of step old new happens places end link ≡ heard_counts step old new happens end link)
    → IfTurnHearsSome step old new happens ways places
by_counts links (Turn end link) old new takes ways places so comes same =
    subst (λ (k : ℕ). HearsSome takes.turns.takes.by_octet.marks (take k (carried_in (ways end link))))
    (sym (same end link (turn_below links end link old new takes so))) comes
by_counts links (CommandStep end link command) old new happens ways places so comes same = tt
by_counts links (Ask end who event) old new happens ways places so comes same = tt
by_counts links (Damage end link place octet) old new happens ways places so comes same = tt

-- A STEP
module _ (count : ℕ) (idle : End → ℕ → ℕ) (ds : End → ℕ → List Doing) (step : WireStep) (old new : Wires) (happens : Happens step old new) (intact : IsIntact step)
    (ways : Ways) (places : Places) (so : AreSo count old) (so' : AreSo count new) (p : At count ds idle old)
    (each : (end : End) (link : ℕ) → link < count → Stands (idle end link) (ds (other end) link) (ds end link) (ways end link) (places end link)) where
  abbrev ds' : End → ℕ → List Doing
  ds' = later ds step old new happens

  p' : At count ds' idle new
  p' = step_passes count ds idle step old new happens intact p

  -- seen from an end
  seen : (end : End) → IsPassing count (ds' end) (ds' (other end)) (idle end) (idle (other end)) (seen_from end new)
  seen A = p'
  seen B = flips count (ds' A) (ds' B) (idle A) (idle B) (seen_from A new) p'

  record StepSo (end : End) (link : ℕ) : Type 0 where
    pub counts : counts_of step old new happens places end link ≡ heard_counts step old new happens end link
    pub stands : Stands (idle end link) (ds' (other end) link) (ds' end link) (ways_by (counts_of step old new happens places) step old new happens ways end link)
        (places_after step old new happens places end link)
    pub front : HearsFront (marks_of (turns_in end link step old new happens)) (ways end link)

  step_so_far : (end : End) (link : ℕ) → link < count → StepSo end link
  step_so_far end link below =
      let is = seen end in
      let hearer = there_is (seen_from end new).near.links link (subst (λ m. link < m) (sym is.near_links) below) in
      let sender = there_is (seen_from end new).far.links link (subst (λ m. link < m) (sym is.far_links) below) in
      let line = present (seen_from end new).to_near link (subst (λ m. link < m) (sym is.near_lines) below) in
      let hears = is.near_end.links link hearer.0 hearer.1 in
      let sends = is.far_end.links link sender.0 sender.1 in
      let n = near_hears count (ds' end) (ds' (other end)) (idle end) (idle (other end)) (seen_from end new) is link below in
      let s = each end link below in
      let sent = turns_in (other end) link step old new happens in
      let heard = turns_in end link step old new happens in
      let marked = is_marked (slice_get (seen_from end new).near.links link) in
      let left = bits_left (slice_get (seen_from end new).far.links link) in
      let few_sent = few_turns (other end) link step old new happens in
      let few_heard = few_turns end link step old new happens in
      let takes = (each_step end link step old new happens).0 in
      let puts = (each_step (other end) link step old new happens).1 in
      let one = apart end link step old new happens in
      let left_is = ap bits_left sender.1 in
      let fifo = is.near_line link line.0 line.1 in
      record {
        counts = same_count (idle end link) (ds (other end) link) (ds end link) sent heard marked left (ways end link) (places end link) s few_sent few_heard takes puts one n
            (octets_in (ds' end link)) line.0 sender.0.terminal.bits left_is refl fifo sends.carries sends.sends hears.marks;
        stands = stands_on (idle end link) (ds (other end) link) (ds end link) sent heard marked left (ways end link) (places end link) s few_sent few_heard takes puts one n
            (octets_in (ds' end link)) line.0 sender.0.terminal.bits left_is refl fifo sends.carries sends.sends hears.marks;
        front = (passes_on (ds (other end) link) (ds end link) sent heard marked (ways end link) s.under n.passed one).front;
      }

  comes : IfTurnComes step old new happens (heard_counts step old new happens) ways
  comes = some_come step old new happens ways (one_hears count step old new happens ways so (λ end link below. (step_so_far end link below).front))

  shows_step : IfTurnHearsSome step old new happens ways places
  shows_step = by_counts count step old new happens ways places so comes (λ end link below. (step_so_far end link below).counts)

-- STEPS
intact_steps : (links : ℕ) → links ≤ 16 → (idle : End → ℕ → ℕ) (steps : List WireStep) (old new : Wires) (happen : Happen steps old new) (ds : End → ℕ → List Doing)
    (ways : Ways) (places : Places) → AreSound steps → AreIntact steps → AllPlain links steps old new happen → AreSo links old → At links ds idle old
    → ((end : End) (link : ℕ) → link < links → Stands (idle end link) (ds (other end) link) (ds end link) (ways end link) (places end link))
    → ShowsAsLoss steps old new happen ways places
intact_steps links few idle [] old new happen ds ways places sound intact plain so p each = tt
intact_steps links few idle (step ∷ steps) old new happen ds ways places sound intact plain so p each =
    let mid = happen.0 in
    let parts = λ (end : End) (link : ℕ) (below : link < links).
    plain_parts (turns_in end link step old mid happen.1) (all_turns end link steps mid new happen.2) (plain end link below) in
    let so' = step_so links few step old mid happen.1 sound.0 (λ end link below. (parts end link below).0) so in (
      shows_step links idle ds step old mid happen.1 intact.0 ways places so so' p each,
      intact_steps links few idle steps mid new happen.2 (later ds step old mid happen.1)
          (ways_by (counts_of step old mid happen.1 places) step old mid happen.1 ways) (places_after step old mid happen.1 places)
          sound.1 intact.1 (λ end link below. (parts end link below).1) so' (step_passes links ds idle step old mid happen.1 intact.0 p)
          (λ end link below. (step_so_far links idle ds step old mid happen.1 intact.0 ways places so so' p each end link below).stands),
    )

-- THE LAW
same_idle : (lengths : List LineLengths) (end : End) (link : ℕ) → length_to end (slice_get lengths link) ≡ idle_of lengths end link
same_idle lengths A link = go (slice_get lengths link)
  where
    go : (found : Option LineLengths) → length_to A found ≡ length_at A found
    go None = refl
    go (Some line) = refl
same_idle lengths B link = go (slice_get lengths link)
  where
    go : (found : Option LineLengths) → length_to B found ≡ length_at B found
    go None = refl
    go (Some line) = refl

pub intact_shows : IntactLinesShowAsLoss
intact_shows a b lengths steps w run =
    intact_steps (length lengths) (few_links a b lengths steps w run) (idle_of lengths) steps (new_wires a b lengths) w run.run.happen (λ end link. []) no_ways
    (first_places lengths) run.so.sound run.so.lines.intact (all_plain a b lengths steps w run) (first_so a b lengths steps w run)
    (begins a b lengths run.run.fitting run.so.lines.narrow_a run.so.lines.narrow_b)
    (λ end link below. record {
      under = record { heard = []; sent_are = refl; heard_are = refl };
      came = refl;
      put = let is = same_idle lengths end link in omega (arith, is);
      right = tt;
    })
