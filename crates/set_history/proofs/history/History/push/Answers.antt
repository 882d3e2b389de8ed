use Rattle.std.proofs.Common.{arith, refl, ap, subst, sym, ◌≡◌, ◌∙◌, ◌+◌, ◌-◌, ◌++◌, [], ◌∷◌, ℕ, List, length}
use Rattle.std.specs.Prelude.{vec_len, vec_capacity}
use Rattle.set_events.specs.Lent.{answer_in, event_in, octets_in}
use Rattle.set_events.specs.declared.history.Entry.{Entry}
use Rattle.set_history.specs.Told.{HistoryState, HasRoom, body_of}
use Rattle.set_history.specs.Written.{entry_text}
use Rattle.set_history.specs.Runs.{AreRuns, IsOneMore, history_told}
use Rattle.set_history.specs.declared.run.LastRun.{LastRun}
use Rattle.set_history.proofs.OneMore.{written_are, written_one, has_octets, same_octets}
use Rattle.set_history.proofs.history.History.push.Goals as goal

pub written-requires-clause-room : goal.written-requires-clause-room
written-requires-clause-room g c =
    let room = subst (HasRoom (event_in c.args.event.now)) (sym c.self.view_is) c.requires.room in
    let has = has_octets (length (body_of (event_in c.args.event.now)) + 273 + 37)
    (vec_capacity c.self.inside.runs - vec_len c.self.inside.runs) (vec_capacity c.self.inside.octets - vec_len c.self.inside.octets) room in
    let few = c.requires.answer in
    let same : length (octets_in c.args.event.now) ≡ length (body_of (event_in c.args.event.now)) = same_octets c.args.event.now in
    omega (arith, has, few, same)

module _ (g : _) (c : goal.After-written g) where
  abbrev entry : Entry
  entry = record { who = c.args.who; event = event_in c.args.event.now; answer = answer_in c.args.answer.now }

  are : AreRuns c.open_run.new.runs.items c.open_run.new.last c.self.inside.octets.items
  are = subst (AreRuns c.open_run.new.runs.items c.open_run.new.last) c.deref-2.ensures.value c.open_run.ensures.are

  one : IsOneMore c.open_run.new.last c.written.new.last (length (c.self.inside.octets.items ++ entry_text entry))
  one = subst (λ (xs : List ℕ). IsOneMore c.open_run.new.last c.written.new.last (length xs)) c.written.ensures.items c.written.ensures.last

pub invariant_of-self-2 : goal.invariant_of-self-2
invariant_of-self-2 g c = rw (c.written.ensures.items)
    (written_are c.open_run.new.runs.items c.open_run.new.last c.written.new.last c.self.inside.octets.items (entry g c) (are g c) c.open_run.ensures.none c.written.ensures.kept (one g c))

pub returns : goal.returns
returns g c =
    ap (history_told c.open_run.new.runs.items c.written.new.last) c.written.ensures.items
    ∙ written_one c.open_run.new.runs.items c.open_run.new.last c.written.new.last c.self.inside.octets.items (entry g c) (are g c) c.open_run.ensures.none c.written.ensures.kept (one g c)
    ∙ ap (λ (es : List Entry). es ++ entry g c ∷ [])
    (ap (history_told c.open_run.new.runs.items c.open_run.new.last) (sym c.deref-2.ensures.value)
    ∙ c.open_run.ensures.same
    ∙ ap (history_told c.self.inside.runs.items c.counted.new.last) c.deref-2.ensures.value
    ∙ ap (λ (l : LastRun). history_told c.self.inside.runs.items l c.self.inside.octets.items) (c.if-counted.ensures.no refl)
    ∙ ap (λ (h : HistoryState). h.items) c.self.view_is)
