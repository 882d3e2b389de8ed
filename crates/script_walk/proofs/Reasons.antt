-- EVERY REASON IS SO: a line asks for nothing that has a step of its own, and each move can be made but for its reason.
use Rattle.std.proofs.Common.{refl, arith, ◌≡◌, subst, ℕ, Bool, true, false, ◌||◌, nat_lt, List, [], ◌∷◌, length, Option, Some, None, Ok, Err, cond, codes}
use Rattle.std.specs.Result.{result_ok}
use Rattle.std.specs.Str.{bytes_eq}
use Rattle.std.proofs.lemmas.Bool.Decides.{nat_tests}
use Rattle.l2_units.specs.declared.profile.Profile.{Profile}
use Rattle.l2_units.specs.declared.unit.Unit.{Unit as SignalUnit}
use Rattle.pair_steps.specs.Lines.{without}
use Rattle.set_events.specs.declared.event.Event.{Event}
use Rattle.set_events.specs.declared.event.Event.TheVariants.{Offer, Take, Find, Next, Heard}
use Rattle.set_model.specs.State.{link_count, is_settled, is_up}
use Rattle.pair_steps.specs.declared.step.End.{End}
use Rattle.pair_steps.specs.declared.step.End.TheVariants.{A, B}
use Rattle.pair_steps.specs.declared.step.Shown.TheVariants.{Answered, Up as CameUp, Lost}
use Rattle.pair_steps.specs.declared.step.Step.{Step}
use Rattle.pair_steps.specs.declared.step.Step.TheVariants.{Act, Emit, Arrive, Lose, Together, Inject}
use Rattle.pair_model.specs.World.{World, shows, impossible, exhausted, at_end, with_end, line_to, with_line, joined, actor_of, answer_to, after, is_full, has_link, has_actor, acts, sends_on, emits, reaches, front_arrives, arrives, loses, risen, is_settled_at_both, rises, has_own_step, done_by, carried_out}
use Rattle.pair_rises.specs.declared.moves.Move.{Move}
use Rattle.pair_rises.specs.declared.moves.Move.TheVariants.{Step as MoveStep, Rise, Fill}
use Rattle.pair_rises.specs.Rises.{comes_up, fills_line, idle_at, is_first, moved, risen_so}
use Rattle.text_forms.specs.declared.at_link.AtLink.{AtLink}
use Rattle.text_forms.specs.declared.at_link.AtLink.TheVariants.{Emit as Emitting, Arrive as Arriving, Rise as Rising, Fill as Filling, Event as Telling}
use Rattle.text_forms.specs.declared.at_link.LinkEvent.TheVariants.{Down as TellsDown, Blind as TellsBlind, NoAnswer as TellsNoAnswer, Timed as TellsTimed, Restore as TellsRestore, Redeclare as TellsRedeclare, BackTimeout as TellsBackTimeout, Test as TellsTest}
use Rattle.text_forms.specs.declared.mistake.Mistake.{Mistake}
use Rattle.text_forms.specs.declared.mistake.Mistake.TheVariants.{NoSuchLink, NotSettled, NotSettledThere, NothingUnderWay, NoUnitThere, TogetherWants, OfferWants, TakeWants, FindWants, OnLinkWants, LoseWants, HearWants}
use Rattle.text_forms.specs.Impossible.{why_not}
use Rattle.text_forms.specs.Words.{Read, Rest, at_place, at_place_or, at_end as ends_with, behind, behind_name, first_word}
use Rattle.text_forms.specs.Places.{an_end, a_link, a_number, octets, a_unit}
use Rattle.text_forms.specs.Moves.{at_link_of, find, hear, lose, move_by, move_of, move_on, move_read, offer, on_link, plain_move, take, together}
use Rattle.text_forms.proofs.Forms.{at_place_ok, at_place_or_ok, at_end_ok}
use Rattle.script_walk.specs.Reasons.{IsSo, EveryReasonIsSo}

-- A LINE asks for no event that is asked by a step of its own.
IsPlain : Step → Type 0
IsPlain (Act end event) = has_own_step event ≡ false
IsPlain _ = Unit {0}

-- what it asks for at one end alone isn't an event
IsPlainMove : Move → Type 0
IsPlainMove (MoveStep step) = IsPlain step
IsPlainMove _ = Unit {0}

-- the line's end, behind a move
end_plain : (a move : Move) (rest : Rest) → IsPlainMove a → ends_with a rest ≡ Ok move → IsPlainMove move
end_plain a move rest p e = subst IsPlainMove (at_end_ok a move rest e) p

on_plain : (what : AtLink) (end : End) (link : ℕ) → IsPlainMove (move_on what end link)
unfolding IsPlainMove IsPlain
on_plain Emitting end link = tt
on_plain Arriving end link = tt
on_plain Rising end link = tt
on_plain Filling end link = tt
on_plain (Telling TellsDown) end link = refl
on_plain (Telling TellsBlind) end link = refl
on_plain (Telling TellsNoAnswer) end link = refl
on_plain (Telling TellsTimed) end link = refl
on_plain (Telling TellsRestore) end link = refl
on_plain (Telling TellsRedeclare) end link = refl
on_plain (Telling TellsBackTimeout) end link = refl
on_plain (Telling TellsTest) end link = refl

module _ (move : Move) where
  together_plain : (rest : Rest) → together rest ≡ Ok move → IsPlainMove move
  unfolding IsPlainMove IsPlain
  together_plain rest e =
      at_place_ok a_link (λ link. ends_with (MoveStep (Together link))) rest move e (λ link w is e1.
      end_plain (MoveStep (Together link)) move (behind rest) tt e1)

  offer_plain : (rest : Rest) → offer rest ≡ Ok move → IsPlainMove move
  unfolding IsPlainMove IsPlain
  offer_plain rest e =
      at_place_ok an_end (λ end. at_place_or octets [] (λ body. ends_with (MoveStep (Act end (Offer body))))) rest move e (λ end w is e1.
      at_place_or_ok octets (λ body. ends_with (MoveStep (Act end (Offer body)))) (behind rest) move [] e1 (λ body e2.
      end_plain (MoveStep (Act end (Offer body))) move (behind (behind rest)) refl e2))

  take_plain : (rest : Rest) → take rest ≡ Ok move → IsPlainMove move
  unfolding IsPlainMove IsPlain
  take_plain rest e =
      at_place_ok an_end (λ end. ends_with (MoveStep (Act end Take))) rest move e (λ end w is e1.
      end_plain (MoveStep (Act end Take)) move (behind rest) refl e1)

  find_plain : (rest : Rest) → find rest ≡ Ok move → IsPlainMove move
  unfolding IsPlainMove IsPlain
  find_plain rest e =
      at_place_ok an_end (λ end. at_place a_number (λ number. ends_with (MoveStep (Act end (Find number))))) rest move e (λ end w is e1.
      at_place_ok a_number (λ number. ends_with (MoveStep (Act end (Find number)))) (behind rest) move e1 (λ number v has e2.
      end_plain (MoveStep (Act end (Find number))) move (behind (behind rest)) refl e2))

  lose_plain : (rest : Rest) → lose rest ≡ Ok move → IsPlainMove move
  unfolding IsPlainMove IsPlain
  lose_plain rest e =
      at_place_ok an_end (λ end. at_place a_link (λ link. at_place a_number (λ place. ends_with (MoveStep (Lose end link place))))) rest move e (λ end w is e1.
      at_place_ok a_link (λ link. at_place a_number (λ place. ends_with (MoveStep (Lose end link place)))) (behind rest) move e1 (λ link v has e2.
      at_place_ok a_number (λ place. ends_with (MoveStep (Lose end link place))) (behind (behind rest)) move e2 (λ place u there e3.
      end_plain (MoveStep (Lose end link place)) move (behind (behind (behind rest))) tt e3)))

  hear_plain : (profile : Profile) (rest : Rest) → hear profile rest ≡ Ok move → IsPlainMove move
  unfolding IsPlainMove IsPlain hear
  hear_plain profile rest e =
      at_place_ok an_end (λ end. at_place a_link (λ link. at_place (a_unit profile) (λ unit. ends_with (MoveStep (Inject end link unit))))) rest move e (λ end w is e1.
      at_place_ok a_link (λ link. at_place (a_unit profile) (λ unit. ends_with (MoveStep (Inject end link unit)))) (behind rest) move e1 (λ link v has e2.
      at_place_ok (a_unit profile) (λ unit. ends_with (MoveStep (Inject end link unit))) (behind (behind rest)) move e2 (λ unit u there e3.
      end_plain (MoveStep (Inject end link unit)) move (behind (behind (behind rest))) tt e3)))

  link_plain : (what : Option AtLink) (name : List ℕ) (rest : Rest) → on_link what name rest ≡ Ok move → IsPlainMove move
  unfolding on_link
  link_plain None name rest e = absurd cc
  link_plain (Some what) name rest e =
      at_place_ok an_end (λ end. at_place a_link (λ link. ends_with (move_on what end link))) rest move e (λ end w is e1.
      at_place_ok a_link (λ link. ends_with (move_on what end link)) (behind rest) move e1 (λ link v has e2.
      end_plain (move_on what end link) move (behind (behind rest)) (on_plain what end link) e2))

  -- a choice between two forms
  either : (b : Bool) (x y : Read Move) → (x ≡ Ok move → IsPlainMove move) → (y ≡ Ok move → IsPlainMove move) → cond b x y ≡ Ok move → IsPlainMove move
  either true x y p q e = p e
  either false x y p q e = q e

  some_plain : (name : List ℕ) (behind : Mistake → Rest) → plain_move name behind ≡ Ok move → IsPlainMove move
  unfolding plain_move
  some_plain name behind =
      either (bytes_eq name (codes "together")) _ _ (together_plain (behind TogetherWants))
      (either (bytes_eq name (codes "take")) _ _ (take_plain (behind TakeWants))
      (either (bytes_eq name (codes "find")) _ _ (find_plain (behind FindWants))
      (either (bytes_eq name (codes "lose")) _ _ (lose_plain (behind LoseWants))
      (link_plain (at_link_of name) name (behind OnLinkWants)))))

  move_plain : (profile : Profile) (name : List ℕ) (behind : Mistake → Rest) → move_by profile name behind ≡ Ok move → IsPlainMove move
  move_plain profile name behind =
      either (bytes_eq name (codes "offer")) _ _ (offer_plain (behind OfferWants))
      (either (bytes_eq name (codes "hear")) _ _ (hear_plain profile (behind HearWants))
      (some_plain name behind))

read_ok : (read : Read Move) (move : Move) → result_ok read ≡ Some move → read ≡ Ok move
read_ok (Ok a) move e = cc
read_ok (Err blame) move e = absurd cc

plain : (profile : Profile) (text : List ℕ) (move : Move) → move_of profile text ≡ Some move → IsPlainMove move
plain profile text move e = move_plain move profile (first_word text) (behind_name text) (read_ok (move_read profile text) move e)

-- EACH MOVE of such a line
module _ (w : World) where
  act_so : (end : End) (event : Event) → acts w end event ≡ impossible → has_actor w (actor_of event) ≡ false
  act_so end event e = go (has_actor w (actor_of event)) (is_full (at_end w end)) refl e
    where
      go : (known full : Bool) → has_actor w (actor_of event) ≡ known → cond known (cond full exhausted (shows (Answered (answer_to (at_end w end) event)) (with_end w end (after (at_end w end) event)))) impossible ≡ impossible → has_actor w (actor_of event) ≡ false
      go false full k undone = k
      go true true k undone = absurd cc
      go true false k undone = absurd cc

  own_so : (end : End) (event : Event) → has_own_step event ≡ false → cond (has_own_step event) impossible (acts w end event) ≡ impossible → has_actor w (actor_of event) ≡ false
  own_so end event own e = act_so end event (rw own at e)

  emit_so : (end : End) (link : ℕ) → emits w end link ≡ impossible → has_link w link ≡ false
  emit_so end link e = go (has_link w link) (is_full (at_end w end)) refl e
    where
      go : (known full : Bool) → has_link w link ≡ known → sends_on end link (cond known (cond full exhausted (shows (Answered (answer_to (at_end w end) (Next link))) (with_end w end (after (at_end w end) (Next link))))) impossible) ≡ impossible → has_link w link ≡ false
      go false full k undone = k
      go true true k undone = absurd cc
      go true false k undone = absurd cc

  -- a unit that is heard where the link is known isn't impossible
  reach_so : (end : End) (link : ℕ) (unit : SignalUnit) (rest : List SignalUnit) → has_link w link ≡ true → reaches (with_line w end link rest) end link unit ≡ impossible → ⊥
  reach_so A link unit rest k e = go (is_up link w.a.state) (is_full w.a) (rw k at e)
    where
      go : (up full : Bool) → cond up (cond full exhausted (shows (Answered (answer_to w.a (Heard link unit))) (with_end (with_line w A link rest) A (after w.a (Heard link unit))))) (shows Lost (with_line w A link rest)) ≡ impossible → ⊥
      go true true undone = absurd cc
      go true false undone = absurd cc
      go false full undone = absurd cc
  reach_so B link unit rest k e = go (is_up link w.b.state) (is_full w.b) (rw k at e)
    where
      go : (up full : Bool) → cond up (cond full exhausted (shows (Answered (answer_to w.b (Heard link unit))) (with_end (with_line w B link rest) B (after w.b (Heard link unit))))) (shows Lost (with_line w B link rest)) ≡ impossible → ⊥
      go true true undone = absurd cc
      go true false undone = absurd cc
      go false full undone = absurd cc

  front_so : (end : End) (link : ℕ) (line : List SignalUnit) → has_link w link ≡ true → front_arrives w end link line ≡ impossible → line ≡ []
  front_so end link [] k e = refl
  front_so end link (unit ∷ rest) k e = absurd (reach_so end link unit rest k e)

  arrive_so : (end : End) (link : ℕ) → arrives w end link ≡ impossible → IsSo (why_not (link_count w.a.state) (MoveStep (Arrive end link))).1 w (MoveStep (Arrive end link))
  arrive_so end link e = go (nat_lt link (link_count w.a.state)) refl
    where
      go : (known : Bool) → nat_lt link (link_count w.a.state) ≡ known → IsSo (cond known NothingUnderWay NoSuchLink) w (MoveStep (Arrive end link))
      go true k = front_so end link (line_to w end link) k (rw k at e)
      go false k = k

  lose_so : (end : End) (link place : ℕ) → loses w end link place ≡ impossible → IsSo (why_not (link_count w.a.state) (MoveStep (Lose end link place))).1 w (MoveStep (Lose end link place))
  lose_so end link place e = go (nat_lt link (link_count w.a.state)) refl (nat_lt place (length (line_to w end link))) refl
    where
      go : (known : Bool) → nat_lt link (link_count w.a.state) ≡ known → (within : Bool) → nat_lt place (length (line_to w end link)) ≡ within → IsSo (cond {A = ℕ × Mistake} known (3, NoUnitThere) (2, NoSuchLink)).1 w (MoveStep (Lose end link place))
      go true k true f = absurd (let no : shows Lost (with_line w end link (without place (line_to w end link))) ≡ impossible = rw (k, f) at e in cc)
      go true k false f = grind (arith, nat_tests, f)
      go false k within f = k

  together_so : (link : ℕ) → rises w link ≡ impossible → IsSo (why_not (link_count w.a.state) (MoveStep (Together link))).1 w (MoveStep (Together link))
  together_so link e = go (nat_lt link (link_count w.a.state)) refl (is_settled_at_both w link) refl (is_full w.a || is_full w.b) refl
    where
      go : (known : Bool) → nat_lt link (link_count w.a.state) ≡ known → (settled : Bool) → is_settled_at_both w link ≡ settled → (full : Bool) → (is_full w.a || is_full w.b) ≡ full → IsSo (cond known NotSettled NoSuchLink) w (MoveStep (Together link))
      go true k true s true f = absurd (let no : exhausted ≡ impossible = rw (k, s, f) at e in cc)
      go true k true s false f = absurd (let no : shows CameUp (risen w link) ≡ impossible = rw (k, s, f) at e in cc)
      go true k false s full f = s
      go false k settled s full f = k

  rise_so : (end : End) (link : ℕ) → comes_up w end link ≡ impossible → IsSo (why_not (link_count w.a.state) (Rise end link)).1 w (Rise end link)
  rise_so end link e = go (nat_lt link (link_count w.a.state)) refl (is_settled link (at_end w end).state) refl (is_full (at_end w end)) refl
    where
      go : (known : Bool) → nat_lt link (link_count w.a.state) ≡ known → (settled : Bool) → is_settled link (at_end w end).state ≡ settled → (full : Bool) → is_full (at_end w end) ≡ full → IsSo (cond known NotSettledThere NoSuchLink) w (Rise end link)
      go true k true s true f = absurd (let no : exhausted ≡ impossible = rw (k, s, f) at e in cc)
      go true k true s false f = absurd (let no : shows CameUp (risen_so (is_first w end link) w end link) ≡ impossible = rw (k, s, f) at e in cc)
      go true k false s full f = s
      go false k settled s full f = k

  fill_so : (end : End) (link : ℕ) → fills_line w end link ≡ impossible → has_link w link ≡ false
  fill_so end link e = go (has_link w link) refl e
    where
      go : (known : Bool) → has_link w link ≡ known → cond known (shows Lost (joined w end link (idle_at w end))) impossible ≡ impossible → has_link w link ≡ false
      go false k undone = k
      go true k undone = absurd cc

  done_so : (step : Step) → IsPlain step → done_by w step ≡ impossible → IsSo (why_not (link_count w.a.state) (MoveStep step)).1 w (MoveStep step)
  unfolding IsPlain
  done_so (Act end event) p e = own_so end event p e
  done_so (Emit end link) p e = emit_so end link e
  done_so (Arrive end link) p e = arrive_so end link e
  done_so (Lose end link place) p e = lose_so end link place e
  done_so (Together link) p e = together_so link e
  done_so (Inject end link unit) p e = act_so end (Heard link unit) e

  moved_so : (move : Move) → IsPlainMove move → moved w move ≡ impossible → IsSo (why_not (link_count w.a.state) move).1 w move
  unfolding IsPlainMove carried_out
  moved_so (MoveStep step) p e = done_so step p e
  moved_so (Rise end link) p e = rise_so end link e
  moved_so (Fill end link) p e = fill_so end link e

pub every_reason_is_so : EveryReasonIsSo
every_reason_is_so w profile text move read e = moved_so w move (plain profile text move read) e
