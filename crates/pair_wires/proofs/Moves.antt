-- EACH ENTRY IS A MOVE, by what each move does; a set with a longer history stays one (`thinned_then`).
use Rattle.std.proofs.Common.{refl, arith, ap, sym, subst, ◌≡◌, ◌∙◌, ◌+◌, ℕ, Bool, true, false, List, [], ◌∷◌, ◌++◌, length, append-nil, append_assoc}
use Rattle.std.proofs.lemmas.Bool.Decides.{nat_tests}
use Rattle.std.proofs.lemmas.List.{length-append}
use Rattle.l2_units.specs.declared.unit.Unit.{Unit as SignalUnit}
use Rattle.set_events.specs.declared.answer.Answer.{Answer}
use Rattle.set_events.specs.declared.answer.Answer.TheVariants.{Sent}
use Rattle.set_events.specs.declared.event.Actor.{Actor}
use Rattle.set_events.specs.declared.event.Event.{Event}
use Rattle.set_events.specs.declared.event.Event.TheVariants.{Next, Heard as HeardEvent, Up as UpEvent}
use Rattle.set_events.specs.declared.history.Entry.{Entry}
use Rattle.set_model.specs.History.{Base, LinkSet, IsStep, entries_in}
use Rattle.set_model.specs.State.{State, is_settled, is_up}
use Rattle.set_model.specs.Step.{step}
use Rattle.pair_steps.specs.declared.step.End.{End}
use Rattle.pair_steps.specs.declared.step.End.TheVariants.{A, B}
use Rattle.pair_steps.specs.declared.step.Shown.TheVariants.{Answered, Up}
use Rattle.pair_steps.specs.declared.step.Step.TheVariants.{Act, Emit, Arrive}
use Rattle.pair_model.specs.World.{World, shows, acts, at_end, line_to, sends_on, with_end, with_line, joined, other, after, answer_to, is_full, actor_of, has_actor, has_link, has_own_step, carried_out}
use Rattle.pair_streams.specs.Handed.{handed_by, handed_in}
use Rattle.pair_rises.specs.declared.moves.Move.TheVariants.{Step as MoveStep, Rise}
use Rattle.pair_rises.specs.Rises.{is_first, risen_so}
use Rattle.pair_wires.specs.Moves.{IsThinned, Moves, IsAskedThere, EachEntryMoves, InVainIsNoMove}

handed_more : (xs ys : List Entry) → handed_in (xs ++ ys) ≡ handed_in xs ++ handed_in ys
handed_more [] ys = refl
handed_more (x ∷ xs) ys = ap (λ (bodies : List (List ℕ)). handed_by x.answer ++ bodies) (handed_more xs ys) ∙ sym (append_assoc (handed_by x.answer) (handed_in xs) (handed_in ys))

-- A SET GOES ON.
module _ (thin full full' : LinkSet) (who : Actor) (event : Event) (answer : Answer) (t : IsThinned thin full) (asked : IsStep full who event answer full') where
  answer_same : answer_to thin event ≡ answer
  answer_same = ap (λ (s : State). (step s event).answer) t.state ∙ sym asked.answer_is

  abbrev last : Entry
  last = record { who = who; event = event; answer = answer }

  full_handed : handed_in full'.history ≡ handed_in full.history ++ handed_by answer
  full_handed =
      ap handed_in asked.history_is ∙ handed_more full.history (last ∷ [])
      ∙ ap (λ (bodies : List (List ℕ)). handed_in full.history ++ bodies) (append-nil (handed_by answer))

  full_longer : length full'.history ≡ length full.history + 1
  full_longer = ap length asked.history_is ∙ length-append full.history (last ∷ [])

  thinned_then : IsThinned (after thin event) full'
  thinned_then = record {
    base = t.base ∙ sym asked.base_is;
    state = ap (λ (s : State). (step s event).state) t.state ∙ sym asked.state_is;
    fewer = let longer = length-append thin.history (record { who = actor_of event; event = event; answer = answer_to thin event } ∷ []) in
        omega (arith, longer, full_longer, t.fewer);
    handed = handed_more thin.history (record { who = actor_of event; event = event; answer = answer_to thin event } ∷ [])
        ∙ ap (λ (bodies : List (List ℕ)). handed_in thin.history ++ bodies) (append-nil (handed_by (answer_to thin event)))
        ∙ ap (λ (bodies : List (List ℕ)). bodies ++ handed_by (answer_to thin event)) t.handed
        ∙ ap (λ (a : Answer). handed_in full.history ++ handed_by a) answer_same ∙ sym full_handed;
  }

  in_vain : (step full.state event).state ≡ full.state → handed_by answer ≡ [] → IsThinned thin full'
  in_vain stays none = record {
    base = t.base ∙ sym asked.base_is;
    state = t.state ∙ sym (asked.state_is ∙ stays);
    fewer = omega (arith, full_longer, t.fewer);
    handed = t.handed ∙ sym (append-nil (handed_in full.history)) ∙ ap (λ (bodies : List (List ℕ)). handed_in full.history ++ bodies) (sym none) ∙ sym full_handed;
  }

room_left : (thin full : LinkSet) → IsThinned thin full → is_full full ≡ false → is_full thin ≡ false
room_left thin full t room =
    let same = ap (λ (b : Base). entries_in (record full { base = b })) t.base in
    grind (arith, nat_tests, room, t.fewer, t.base)

-- the end of a world with another set
end_is : (w : World) (end : End) (set : LinkSet) → at_end (with_end w end set) end ≡ set
end_is w A set = refl
end_is w B set = refl

far_is : (w : World) (end : End) (set : LinkSet) → at_end (with_end w end set) (other end) ≡ at_end w (other end)
far_is w A set = refl
far_is w B set = refl

risen_is : (first : Bool) (w : World) (end : End) (link : ℕ) → at_end (risen_so first w end link) end ≡ after (at_end w end) (UpEvent link)
risen_is true w A link = refl
risen_is true w B link = refl
risen_is false w A link = refl
risen_is false w B link = refl

risen_far : (first : Bool) (w : World) (end : End) (link : ℕ) → at_end (risen_so first w end link) (other end) ≡ at_end w (other end)
risen_far true w A link = refl
risen_far true w B link = refl
risen_far false w A link = refl
risen_far false w B link = refl

joined_is : (w : World) (end : End) (link : ℕ) (unit : SignalUnit) (at : End) → at_end (joined w end link unit) at ≡ at_end w at
joined_is w A link unit A = refl
joined_is w A link unit B = refl
joined_is w B link unit A = refl
joined_is w B link unit B = refl

line_is : (w : World) (end : End) (link : ℕ) (rest : List SignalUnit) (at : End) → at_end (with_line w end link rest) at ≡ at_end w at
line_is w A link rest A = refl
line_is w A link rest B = refl
line_is w B link rest A = refl
line_is w B link rest B = refl

line_has : (w : World) (end : End) (link : ℕ) (rest : List SignalUnit) (l : ℕ) → has_link (with_line w end link rest) l ≡ has_link w l
line_has w A link rest l = refl
line_has w B link rest l = refl

module _ (w : World) (end : End) (full : LinkSet) (who : Actor) (full' : LinkSet) where
  abbrev near : LinkSet
  near = at_end w end

  rises_move : (link : ℕ) (answer : Answer) → IsAskedThere w end full who (UpEvent link) answer full' → has_link w link ≡ true
      → is_settled link full.state ≡ true → Moves w end (Rise end link) Up (risen_so (is_first w end link) w end link) full'
  rises_move link answer asked known settled =
      let is : is_settled link near.state ≡ true = ap (is_settled link) asked.thinned.state ∙ settled in
      let room = room_left near full asked.thinned asked.has_room in
      let first = is_first w end link in
      record {
        move_is = rw (known, is, room) refl;
        thinned = subst (λ (set : LinkSet). IsThinned set full') (sym (risen_is first w end link))
            (thinned_then near full full' who (UpEvent link) answer asked.thinned asked.is_step);
        far = risen_far first w end link;
      }

  acted : (v : World) (event : Event) (answer : Answer) → at_end v end ≡ near → IsAskedThere w end full who event answer full'
      → has_actor v (actor_of event) ≡ true → acts v end event ≡ shows (Answered answer) (with_end v end (after near event))
  acted v event answer same asked known =
      let room = room_left near full asked.thinned asked.has_room in
      let told = answer_same near full full' who event answer asked.thinned asked.is_step in
      rw (known, same, room, told) refl

  acts_move : (event : Event) (answer : Answer) → IsAskedThere w end full who event answer full' → has_own_step event ≡ false
      → has_actor w (actor_of event) ≡ true
      → Moves w end (MoveStep (Act end event)) (Answered answer) (with_end w end (after near event)) full'
  unfolding carried_out
  acts_move event answer asked own known = record {
    move_is = rw own (acted w event answer refl asked known);
    thinned = subst (λ (set : LinkSet). IsThinned set full') (sym (end_is w end (after near event)))
        (thinned_then near full full' who event answer asked.thinned asked.is_step);
    far = far_is w end (after near event);
  }

  sends_move : (link : ℕ) (unit : SignalUnit) → IsAskedThere w end full who (Next link) (Sent unit) full' → has_link w link ≡ true
      → Moves w end (MoveStep (Emit end link)) (Answered (Sent unit)) (joined (with_end w end (after near (Next link))) end link unit) full'
  unfolding carried_out
  sends_move link unit asked known =
      let v = with_end w end (after near (Next link)) in
      record {
        move_is = ap (sends_on end link) (acted w (Next link) (Sent unit) refl asked known);
        thinned = subst (λ (set : LinkSet). IsThinned set full') (sym (joined_is v end link unit end ∙ end_is w end (after near (Next link))))
            (thinned_then near full full' who (Next link) (Sent unit) asked.thinned asked.is_step);
        far = joined_is v end link unit (other end) ∙ far_is w end (after near (Next link));
      }

  hears_move : (link : ℕ) (unit : SignalUnit) (rest : List SignalUnit) (answer : Answer)
      → IsAskedThere w end full who (HeardEvent link unit) answer full' → has_link w link ≡ true → line_to w end link ≡ unit ∷ rest
      → is_up link full.state ≡ true
      → Moves w end (MoveStep (Arrive end link)) (Answered answer)
      (with_end (with_line w end link rest) end (after near (HeardEvent link unit))) full'
  unfolding carried_out
  hears_move link unit rest answer asked known front up =
      let v = with_line w end link rest in
      let same : at_end v end ≡ near = line_is w end link rest end in
      let is : is_up link (at_end v end).state ≡ true = ap (λ (set : LinkSet). is_up link set.state) same ∙ ap (is_up link) asked.thinned.state ∙ up in
      let heard = acted v (HeardEvent link unit) answer same asked (line_has w end link rest link ∙ known) in
      record {
        move_is = rw (known, front, is) heard;
        thinned = subst (λ (set : LinkSet). IsThinned set full') (sym (end_is v end (after near (HeardEvent link unit))))
            (thinned_then near full full' who (HeardEvent link unit) answer asked.thinned asked.is_step);
        far = far_is v end (after near (HeardEvent link unit)) ∙ line_is w end link rest (other end);
      }

pub each_moves : EachEntryMoves
each_moves w end full who full' = record {
  rises = rises_move w end full who full';
  acts = acts_move w end full who full';
  sends = sends_move w end full who full';
  hears = hears_move w end full who full';
}

pub vain_is_none : InVainIsNoMove
vain_is_none thin full full' who event answer t asked stays none = in_vain thin full full' who event answer t asked stays none
