-- A SCRIPT IS A RUN: an induction over its lines. No move changes what the ends were opened with, so each line is read in
-- the profile of the first.
use Rattle.std.proofs.Common.{refl, ◌≡◌, sym, ap, ap₂, ◌∙◌, ℕ, Bool, true, false, suc, ◌||◌, nat_lt, List, [], ◌∷◌, ◌++◌, length, Option, Some, None, cond}
use Rattle.std.proofs.lemmas.List.{append_assoc}
use Rattle.std.specs.Option.{option_map}
use Rattle.l2_units.specs.declared.profile.Profile.{Profile}
use Rattle.l2_units.specs.declared.unit.Unit.{Unit as SignalUnit}
use Rattle.set_events.specs.declared.answer.Answer.TheVariants.{Accepted, Taken, Found, Sent, Heard as HeardBack, Done, Refused}
use Rattle.set_events.specs.declared.config.SetConfig.{SetConfig}
use Rattle.set_events.specs.declared.event.Event.{Event}
use Rattle.set_events.specs.declared.event.Event.TheVariants.{Next, Heard}
use Rattle.set_model.specs.History.{LinkSet, new_set}
use Rattle.set_model.specs.State.{is_settled, is_up}
use Rattle.pair_steps.specs.declared.step.End.{End}
use Rattle.pair_steps.specs.declared.step.End.TheVariants.{A, B}
use Rattle.pair_steps.specs.declared.step.Shown.{Shown}
use Rattle.pair_steps.specs.declared.step.Shown.TheVariants.{Answered, Up, Lost}
use Rattle.pair_steps.specs.declared.step.Step.{Step}
use Rattle.pair_steps.specs.declared.step.Step.TheVariants.{Act, Emit, Arrive, Lose, Together, Inject}
use Rattle.pair_model.specs.Run.{OnShows, Played, goes_on as plays_on, leads_to, begun}
use Rattle.pair_model.specs.World.{World, Outcome, shows, impossible, exhausted, world_of, at_end, with_end, line_to, with_line, joined, actor_of, answer_to, after, is_full, has_link, has_actor, has_own_step, acts, with_sent, sends_on, emits, reaches, front_arrives, is_settled_at_both, carried_out}
use Rattle.pair_rises.specs.declared.moves.Move.{Move}
use Rattle.pair_rises.specs.declared.moves.Move.TheVariants.{Step as MoveStep, Rise, Fill}
use Rattle.pair_rises.specs.Rises.{idle_at, is_first, moved, risen_so}
use Rattle.pair_world.specs.Moved.{moved_from}
use Rattle.text_forms.specs.declared.opened.Opening.{Opening}
use Rattle.text_forms.specs.declared.opened.Values.{Values}
use Rattle.text_forms.specs.Opened.{IsEnd, IsMadeOf}
use Rattle.text_forms.specs.Moves.{move_of}
use Rattle.text_forms.specs.Opening.{first_line}
use Rattle.text_base.specs.Printing.{Printed}
use Rattle.text_lines.specs.Lines.{prints, stops, goes_on, is_remark, lines_of, text_of_lines}
use Rattle.script_walk.specs.declared.fault.ScriptFault.{ScriptFault}
use Rattle.script_walk.specs.Scripts.{Told, asked, opened, opened_set, opened_world, outcome_of, profile_of, script_rules, told_of}
use Rattle.script_walk.specs.Runs.{EveryScriptIsARun, StepsLeadAlike, IsRunFrom, IsRunOf, behind_remarks, moves_of}

-- What the ends were opened with stays.

abbrev Stays : World → Shown → World → Type 0
Stays w s new = profile_of new ≡ profile_of w

on_either : (b : Bool) (P : Shown → World → Type 0) (x y : Outcome) → OnShows x P → OnShows y P → OnShows (cond b x y) P
on_either true P x y p q = p
on_either false P x y p q = q

after_stays : (w : World) (end : End) (event : Event) → profile_of (with_end w end (after (at_end w end) event)) ≡ profile_of w
after_stays w A event = refl
after_stays w B event = refl

line_stays : (w : World) (end : End) (link : ℕ) (line : List SignalUnit) → profile_of (with_line w end link line) ≡ profile_of w
line_stays w A link line = refl
line_stays w B link line = refl

joined_stays : (w : World) (end : End) (link : ℕ) (unit : SignalUnit) → profile_of (joined w end link unit) ≡ profile_of w
joined_stays w A link unit = refl
joined_stays w B link unit = refl

sent_stays : (w : World) (end : End) (link : ℕ) (s : Shown) → profile_of (with_sent w end link s) ≡ profile_of w
sent_stays w end link (Answered (Sent unit)) = joined_stays w end link unit
sent_stays w end link (Answered (Accepted number)) = refl
sent_stays w end link (Answered (Taken body)) = refl
sent_stays w end link (Answered (Found fate)) = refl
sent_stays w end link (Answered (HeardBack report)) = refl
sent_stays w end link (Answered Done) = refl
sent_stays w end link (Answered (Refused why)) = refl
sent_stays w end link Up = refl
sent_stays w end link Lost = refl

acts_stays : (w : World) (end : End) (event : Event) → OnShows (acts w end event) (Stays w)
acts_stays w end event =
    on_either (has_actor w (actor_of event)) (Stays w) _ _ (on_either (is_full (at_end w end)) (Stays w) _ _ tt (after_stays w end event)) tt

emits_stays : (w : World) (end : End) (link : ℕ) → OnShows (emits w end link) (Stays w)
emits_stays w end link = go (has_link w link) (is_full (at_end w end))
  where
    go : (known full : Bool) → OnShows (sends_on end link (cond known (cond full exhausted (shows (Answered (answer_to (at_end w end) (Next link))) (with_end w end (after (at_end w end) (Next link))))) impossible)) (Stays w)
    go false full = tt
    go true true = tt
    go true false = sent_stays (with_end w end (after (at_end w end) (Next link))) end link (Answered (answer_to (at_end w end) (Next link))) ∙ after_stays w end (Next link)

-- in a world that was opened alike
alike : (w v : World) (o : Outcome) → profile_of v ≡ profile_of w → OnShows o (Stays v) → OnShows o (Stays w)
alike w v (shows s new) e p = p ∙ e
alike w v impossible e p = tt
alike w v exhausted e p = tt

front_stays : (w : World) (end : End) (link : ℕ) (line : List SignalUnit) → OnShows (front_arrives w end link line) (Stays w)
front_stays w end link [] = tt
front_stays w end link (unit ∷ line) =
    let v = with_line w end link line in
    alike w v (reaches v end link unit) (line_stays w end link line) (on_either (is_up link (at_end v end).state) (Stays v) _ _ (acts_stays v end (Heard link unit)) refl)

risen_stays : (first : Bool) (w : World) (end : End) (link : ℕ) → profile_of (risen_so first w end link) ≡ profile_of w
risen_stays true w A link = refl
risen_stays true w B link = refl
risen_stays false w A link = refl
risen_stays false w B link = refl

step_stays : (w : World) (step : Step) → OnShows (carried_out w step) (Stays w)
unfolding carried_out
step_stays w (Act end event) = on_either (has_own_step event) (Stays w) _ _ tt (acts_stays w end event)
step_stays w (Emit end link) = emits_stays w end link
step_stays w (Arrive end link) = on_either (has_link w link) (Stays w) _ _ (front_stays w end link (line_to w end link)) tt
step_stays w (Lose end link place) =
    on_either (has_link w link) (Stays w) _ _ (on_either (nat_lt place (length (line_to w end link))) (Stays w) _ _ (line_stays w end link _) tt) tt
step_stays w (Together link) =
    on_either (has_link w link) (Stays w) _ _ (on_either (is_settled_at_both w link) (Stays w) _ _ (on_either (is_full w.a || is_full w.b) (Stays w) _ _ tt refl) tt) tt
step_stays w (Inject end link unit) = acts_stays w end (Heard link unit)

stays : (w : World) (move : Move) → OnShows (moved w move) (Stays w)
stays w (MoveStep step) = step_stays w step
stays w (Rise end link) =
    on_either (has_link w link) (Stays w) _ _ (on_either (is_settled link (at_end w end).state) (Stays w) _ _ (on_either (is_full (at_end w end)) (Stays w) _ _ tt (risen_stays (is_first w end link) w end link)) tt) tt
stays w (Fill end link) = on_either (has_link w link) (Stays w) _ _ (joined_stays w end link (idle_at w end)) tt

-- The lines behind the first, from a world.

module _ (t : Told) where
  record AreMade (profile : Profile) (before : World) (lines : List (List ℕ)) (printed : List ℕ) : Type 0 where
    moves : List Move
    moves_are : moves_of profile lines ≡ Some moves
    new : World
    leads : (place : ℕ) → moved_from place before moves ≡ leads_to new
    front : List ℕ
    told : printed ≡ front ++ t.at_the_end (Some new)

  -- what the lines behind one print, from what it leaves
  abbrev next : ℕ → List (List ℕ) → Option World → Printed ScriptFault
  next n lines state = text_of_lines (script_rules t) (suc n) state lines

  module _ (n : ℕ) (w : World) (line : List ℕ) (lines : List (List ℕ))
      (all : (v : World) → (next n lines (Some v)).fault ≡ None → AreMade (profile_of v) v lines (next n lines (Some v)).printed) where
    of_outcome : (move : Move) (o : Outcome) → is_remark line ≡ false → move_of (profile_of w) line ≡ Some move → moved w move ≡ o → OnShows o (Stays w)
        → (goes_on (outcome_of t n w move o) (next n lines)).fault ≡ None
        → AreMade (profile_of w) w (line ∷ lines) (goes_on (outcome_of t n w move o) (next n lines)).printed
    of_outcome move (shows s new) r m is same e =
        let rest = all new e in
        record {
          moves = move ∷ rest.moves;
          moves_are = rw (r, m) (ap (λ (p : Profile). option_map (λ (moves : List Move). move ∷ moves) (moves_of p lines)) (sym same) ∙ ap (option_map (λ (moves : List Move). move ∷ moves)) rest.moves_are);
          new = rest.new;
          leads = λ place. rw is (rest.leads (suc place));
          front = t.step n w move (told_of move s new) new ++ rest.front;
          told = ap (λ (x : List ℕ). t.step n w move (told_of move s new) new ++ x) rest.told ∙ sym (append_assoc (t.step n w move (told_of move s new) new) rest.front (t.at_the_end (Some rest.new)));
        }
    of_outcome move impossible r m is same e = absurd cc
    of_outcome move exhausted r m is same e = absurd cc

    of_move : (o : Option Move) → is_remark line ≡ false → move_of (profile_of w) line ≡ o
        → (goes_on (asked t n w line o) (next n lines)).fault ≡ None
        → AreMade (profile_of w) w (line ∷ lines) (goes_on (asked t n w line o) (next n lines)).printed
    of_move None r m e = absurd cc
    of_move (Some move) r m e = of_outcome move (moved w move) r m refl (stays w move) e

    of_line : (long remark : Bool) → is_remark line ≡ remark
        → (goes_on (cond long (stops ((script_rules t).unreadable n)) (cond remark (prints [] (Some w)) (asked t n w line (move_of (profile_of w) line)))) (next n lines)).fault ≡ None
        → AreMade (profile_of w) w (line ∷ lines) (goes_on (cond long (stops ((script_rules t).unreadable n)) (cond remark (prints [] (Some w)) (asked t n w line (move_of (profile_of w) line)))) (next n lines)).printed
    of_line true remark r e = absurd cc
    of_line false true r e =
        let rest = all w e in
        record { moves = rest.moves; moves_are = rw r rest.moves_are; new = rest.new; leads = rest.leads; front = rest.front; told = rest.told }
    of_line false false r e = of_move (move_of (profile_of w) line) r refl e

  made : (lines : List (List ℕ)) (n : ℕ) (w : World) → (text_of_lines (script_rules t) n (Some w) lines).fault ≡ None
      → AreMade (profile_of w) w lines (text_of_lines (script_rules t) n (Some w) lines).printed
  made [] n w e = record { moves = []; moves_are = refl; new = w; leads = λ place. refl; front = []; told = refl }
  made (line ∷ lines) n w e = of_line n w line lines (made lines (suc n)) (nat_lt 4096 (length line)) (is_remark line) refl e

  -- The first line, and those before it.

  -- an end is opened with what the first line gives it
  end_is : (values : Values) (own far : ℕ) (config : SetConfig) → IsEnd values own far config
      → new_set config ≡ opened_set (record { set = 0; links = values.links; method = values.method; profile = values.profile; sio = values.sio; dpc = far; opc = own })
  end_is values own far config e = rw (e.set_is, e.links_is, e.method_is, e.profile_is, e.sio_is, e.dpc_is, e.opc_is) refl

  ends_are : (values : Values) (ends : Opening) → IsMadeOf values ends → (begun ends.a ends.b).world ≡ opened_world values
  ends_are values ends m = ap₂ (λ (a b : LinkSet). world_of a b) (end_is values values.code_a values.code_b ends.a m.end_a) (end_is values values.code_b values.code_a ends.b m.end_b)

  module _ (n : ℕ) (line : List ℕ) (lines : List (List ℕ))
      (all : (next n lines None).fault ≡ None → IsRunOf t (behind_remarks lines) (next n lines None).printed) where
    first_by : (o : Option Values) → is_remark line ≡ false → first_line line ≡ o
        → (goes_on (opened t n line o) (next n lines)).fault ≡ None
        → IsRunFrom t line lines (goes_on (opened t n line o) (next n lines)).printed
    first_by None r f e = absurd cc
    first_by (Some values) r f e =
        let rest = made lines (suc n) (opened_world values) e in
        record {
          values = values;
          values_are = f;
          moves = rest.moves;
          moves_are = rest.moves_are;
          new = rest.new;
          leads = λ ends m. rw (ends_are values ends m) (rest.leads 0);
          front = t.opening (opened_world values) ++ rest.front;
          told = ap (λ (x : List ℕ). t.opening (opened_world values) ++ x) rest.told ∙ sym (append_assoc (t.opening (opened_world values)) rest.front (t.at_the_end (Some rest.new)));
        }

    line_by : (long remark : Bool) → is_remark line ≡ remark
        → (goes_on (cond long (stops ((script_rules t).unreadable n)) (cond remark (prints [] None) (opened t n line (first_line line)))) (next n lines)).fault ≡ None
        → IsRunOf t (behind_remarks (line ∷ lines)) (goes_on (cond long (stops ((script_rules t).unreadable n)) (cond remark (prints [] None) (opened t n line (first_line line)))) (next n lines)).printed
    line_by true remark r e = absurd cc
    line_by false true r e = rw r (all e)
    line_by false false r e = rw r (first_by (first_line line) r refl e)

  from : (lines : List (List ℕ)) (n : ℕ) → (text_of_lines (script_rules t) n None lines).fault ≡ None
      → IsRunOf t (behind_remarks lines) (text_of_lines (script_rules t) n None lines).printed
  from [] n e = refl
  from (line ∷ lines) n e = line_by n line lines (from lines (suc n)) (nat_lt 4096 (length line)) (is_remark line) refl e

pub every_script_is_a_run : EveryScriptIsARun
every_script_is_a_run t input e = from t (lines_of input) 1 e

-- Moves that are all steps.
behind_both : (place : ℕ) (o : Outcome) (f g : World → Played) → ((new : World) → f new ≡ g new) → plays_on place o f ≡ plays_on place o g
behind_both place (shows s new) f g same = same new
behind_both place impossible f g same = refl
behind_both place exhausted f g same = refl

pub steps_lead_alike : StepsLeadAlike
steps_lead_alike place w [] = refl
steps_lead_alike place w (step ∷ steps) = behind_both place (carried_out w step) _ _ (λ new. steps_lead_alike (suc place) new steps)
