-- WHAT IS ASKED, one after another: one more (`chain_more`), each in one way (`chain_alone`), and to its end (`chain_there`).
use Rattle.std.proofs.Common.{refl, sym, ap, subst, arith, ◌≡◌, ◌∙◌, ◌<◌, ◌≤◌, ℕ, zero, suc, Bool, true, false, List, [], ◌∷◌, ◌++◌, Option, None, Some, is_none, is_some, not, slice_set}
use Rattle.l3_link.specs.Management.{Management}
use Rattle.l3_link.specs.Table.{Row, answered}
use Rattle.l3_link.specs.declared.signals.Ask.{Ask}
use Rattle.set_events.specs.declared.answer.Answer.{Answer}
use Rattle.set_events.specs.declared.answer.Refusal.{Refusal}
use Rattle.set_events.specs.declared.event.Actor.TheVariants.{Terminal as TerminalOf}
use Rattle.set_events.specs.declared.event.Event.{Event}
use Rattle.set_events.specs.declared.history.Entry.{Entry}
use Rattle.set_model.specs.Step.{step}
use Rattle.term_bench.specs.Ends.{AtLink, BenchState, told_at}
use Rattle.term_bench.specs.Ready.{IsReady}
use Rattle.term_bench.proofs.BenchLemmas.{there_is}
use Rattle.term_bench.proofs.NarrowThere.{step_gives}
use Rattle.term_bench.proofs.OneLemmas.{one_there, same_bench, same_set}
use Rattle.term_bench.proofs.TurnsThere.{few_set, length_set}
use Rattle.term_managed.proofs.Ending.{answer_fewer, pending}
use Rattle.term_managed.specs.Carrying.{Asks, CarriesOut, Chain, Tells, TellsBy, is_barred, refusal_in}
use Rattle.term_managed.specs.declared.turn.Deed.{Deed}
use Rattle.term_model.specs.declared.command.Command.{Command}

-- One more.

pub chain_more : (link : ℕ) (asked : Option Ask) (m : Management) (old : BenchState) (deeds : List Deed) (deed : Deed) (mid : Management)
    (between new : BenchState) → Chain link asked m old deeds (Some deed.ask) mid between
    → CarriesOut link deed.ask between deed.refused new
    → Chain link asked m old (deeds ++ deed ∷ []) (answered (is_none deed.refused) mid).asked (answered (is_none deed.refused) mid).next new
chain_more link asked m old [] deed mid between new chain carries = (
  new,
  sym chain.0,
  subst (λ (b : BenchState). CarriesOut link deed.ask b deed.refused new) chain.2 carries,
  (
    ap (λ (n : Management). (answered (is_none deed.refused) n).asked) chain.1,
    ap (λ (n : Management). (answered (is_none deed.refused) n).next) chain.1,
    refl,
  ),
)
chain_more link asked m old (first ∷ deeds) deed mid between new chain carries = (
  chain.0,
  chain.1,
  chain.2,
  chain_more link (answered (is_none first.refused) m).asked (answered (is_none first.refused) m).next chain.0 deeds deed mid between new
      chain.3 carries,
)

pub none_of : (refused : Option Refusal) (done : Bool) → is_some refused ≡ not done → done ≡ is_none refused
none_of None true h = refl
none_of None false h = absurd (cc h)
none_of (Some why) true h = absurd (cc h)
none_of (Some why) false h = refl

-- the same, as it is carried out
pub chain_on : (link : ℕ) (first : Option Ask) (m : Management) (old : BenchState) (deeds deeds' : List Deed) (ask : Ask)
    (refused : Option Refusal) (done : Bool) (asked asked' : Option Ask) (mid mid' : Management) (between new : BenchState)
    → Chain link first m old deeds asked mid between → asked ≡ Some ask → CarriesOut link ask between refused new
    → deeds' ≡ deeds ++ record { ask = ask; refused = refused } ∷ [] → done ≡ is_none refused → asked' ≡ (answered done mid).asked
    → mid' ≡ (answered done mid).next → Chain link first m old deeds' asked' mid' new
chain_on link first m old deeds deeds' ask refused done asked asked' mid mid' between new chain is carries told so asks next =
    let deed : Deed = record { ask = ask; refused = refused } in
    let one = chain_more link first m old deeds deed mid between new
    (subst (λ (a : Option Ask). Chain link first m old deeds a mid between) is chain) carries in
    let row : Bool → Row = λ d. answered d mid in
    subst (λ (ds : List Deed). Chain link first m old ds asked' mid' new) (sym told)
    (subst (λ (a : Option Ask). Chain link first m old (deeds ++ deed ∷ []) a mid' new)
    (sym (asks ∙ ap (λ d. (row d).asked) so))
    (subst (λ (n : Management). Chain link first m old (deeds ++ deed ∷ []) (row (is_none refused)).asked n new)
    (sym (next ∙ ap (λ d. (row d).next) so)) one))

-- In one way.

tells_alone : (barred : Bool) (link : ℕ) (command : Command) (old : BenchState) (a b : Option Refusal) (x y : BenchState)
    → TellsBy barred link command old a x → TellsBy barred link command old b y → (a ≡ b) × (x ≡ y)
tells_alone true link command old a b x y first second = (first.0 ∙ sym second.0, first.1 ∙ sym second.1)
tells_alone false link command old a b x y first second =
    let was = one_there old.links link first.1.was second.1.was first.1.is_at second.1.is_at in (
      first.0 ∙ sym second.0,
      same_bench x y (first.1.set_is ∙ sym second.1.set_is)
          (first.1.links_are ∙ ap (λ (at : AtLink). slice_set old.links link (told_at command at)) was ∙ sym second.1.links_are),
    )

asks_alone : (link : ℕ) (event : Event) (old : BenchState) (a b : Option Refusal) (x y : BenchState) → Asks link event old a x
    → Asks link event old b y → (a ≡ b) × (x ≡ y)
asks_alone link event old a b x y first second =
    let answers : first.answer ≡ second.answer = first.step.answer_is ∙ sym second.step.answer_is in (
      first.refused_is ∙ ap (λ (answer : Answer). refusal_in answer) answers ∙ sym second.refused_is,
      same_bench x y
          (same_set x.set y.set (first.step.base_is ∙ sym second.step.base_is) (first.step.state_is ∙ sym second.step.state_is)
          (first.step.history_is ∙ ap (λ (answer : Answer). old.set.history ++ entry answer ∷ []) answers ∙ sym second.step.history_is))
          (first.links_are ∙ sym second.links_are),
    )
  where
    entry : Answer → Entry
    entry answer = record { who = TerminalOf link; event = event; answer = answer }

carries_alone : (link : ℕ) (ask : Ask) (old : BenchState) (a b : Option Refusal) (x y : BenchState) → CarriesOut link ask old a x
    → CarriesOut link ask old b y → (a ≡ b) × (x ≡ y)
carries_alone link (Ask.Rise true) old a b x y first second =
    let one = tells_alone (is_barred link Command.Emergency old) link Command.Emergency old first.0 second.0 first.1 second.1 first.2 second.2 in
    tells_alone (is_barred link Command.Start second.1) link Command.Start second.1 a b x y
    (subst (λ (mid : BenchState). Tells link Command.Start mid a x) one.1 first.3) second.3
carries_alone link (Ask.Rise false) old a b x y first second =
    tells_alone (is_barred link Command.Start old) link Command.Start old a b x y first second
carries_alone link Ask.Emergency old a b x y first second =
    tells_alone (is_barred link Command.Emergency old) link Command.Emergency old a b x y first second
carries_alone link Ask.Stop old a b x y first second =
    tells_alone (is_barred link Command.Stop old) link Command.Stop old a b x y first second
carries_alone link Ask.Test old a b x y first second = asks_alone link (Event.Test link) old a b x y first second
carries_alone link Ask.Timed old a b x y first second = asks_alone link (Event.Timed link) old a b x y first second
carries_alone link Ask.NoAnswer old a b x y first second = asks_alone link (Event.NoAnswer link) old a b x y first second
carries_alone link Ask.Restore old a b x y first second = asks_alone link (Event.Restore link) old a b x y first second
carries_alone link Ask.Redeclare old a b x y first second = asks_alone link (Event.Redeclare link) old a b x y first second
carries_alone link Ask.BackTimeout old a b x y first second = asks_alone link (Event.BackTimeout link) old a b x y first second

same_deed : (a b : Deed) → a.ask ≡ b.ask → a.refused ≡ b.refused → a ≡ b
same_deed a b ask refused =
    ap (λ (x : Ask). record a { ask = x }) ask ∙ ap (λ (r : Option Refusal). record b { refused = r }) refused

pub record AreOneChain (a b : List Deed) (m n : Management) (x y : BenchState) : Type 0 where
  pub deeds : a ≡ b
  pub managements : m ≡ n
  pub benches : x ≡ y

pub chain_alone : (link : ℕ) (asked : Option Ask) (m : Management) (old : BenchState) (a b : List Deed) (first second : Management)
    (x y : BenchState) → Chain link asked m old a None first x → Chain link asked m old b None second y
    → AreOneChain a b first second x y
chain_alone link asked m old [] [] first second x y f g = record {
  deeds = refl;
  managements = f.1 ∙ sym g.1;
  benches = f.2 ∙ sym g.2;
}
chain_alone link asked m old [] (b ∷ seconds) first second x y f g =
    let both : None ≡ Some b.ask = f.0 ∙ g.1 in absurd cc
chain_alone link asked m old (a ∷ firsts) [] first second x y f g =
    let both : None ≡ Some a.ask = g.0 ∙ f.1 in absurd cc
chain_alone link asked m old (a ∷ firsts) (b ∷ seconds) first second x y f g =
    let both : Some a.ask ≡ Some b.ask = sym f.1 ∙ g.1 in
    let asks : a.ask ≡ b.ask = cc in
    let one = carries_alone link b.ask old a.refused b.refused f.0 g.0
    (subst (λ (ask : Ask). CarriesOut link ask old a.refused f.0) asks f.2) g.2 in
    let row : Option Refusal → Row = λ refused. answered (is_none refused) m in
    let rest = chain_alone link (row b.refused).asked (row b.refused).next g.0 firsts seconds first second x y
    (subst (λ (mid : BenchState). Chain link (row b.refused).asked (row b.refused).next mid firsts None first x) one.1
    (subst (λ (refused : Option Refusal). Chain link (row refused).asked (row refused).next f.0 firsts None first x) one.0 f.3)) g.3 in record {
      deeds = ap (λ (d : Deed). d ∷ firsts) (same_deed a b asks one.0) ∙ ap (λ (ds : List Deed). b ∷ ds) rest.deeds;
      managements = rest.managements;
      benches = rest.benches;
    }

-- To its end.

abbrev HasCarried : ℕ → ℕ → Ask → BenchState → Type 0
HasCarried links link ask old =
    (refused : Option Refusal) × (new : BenchState) × CarriesOut link ask old refused new × IsReady links new

tells_there : (links link : ℕ) (command : Command) (barred : Bool) (old : BenchState) → IsReady links old → link < links
    → (refused : Option Refusal) × (new : BenchState) × TellsBy barred link command old refused new × IsReady links new
tells_there links link command true old ready is = (Some Refusal.Unsettled, old, (refl, refl), ready)
tells_there links link command false old ready is =
    let there = there_is old.links link (subst (λ n. link < n) (sym ready.count) is) in
    let now : AtLink = told_at command there.0 in (
      None,
      record { set = old.set; links = slice_set old.links link now },
      (refl, record { was = there.0; is_at = there.1; links_are = refl; set_is = refl }),
      record {
        gives = ready.gives;
        settings = ready.settings;
        narrow = ready.narrow;
        count = length_set old.links link now ∙ ready.count;
        few = few_set old.links link now ready.few (ready.few link there.0 there.1);
      },
    )

asks_there : (links link : ℕ) (event : Event) (old : BenchState) → IsReady links old
    → (refused : Option Refusal) × (new : BenchState) × Asks link event old refused new × IsReady links new
asks_there links link event old ready =
    let answer = (step old.set.state event).answer in
    let entry : Entry = record { who = TerminalOf link; event = event; answer = answer } in (
      refusal_in answer,
      record {
        set = record { base = old.set.base; state = (step old.set.state event).state; history = old.set.history ++ entry ∷ [] };
        links = old.links;
      },
      record {
        answer = answer;
        step = record { base_is = refl; answer_is = refl; state_is = refl; history_is = refl };
        links_are = refl;
        refused_is = refl;
      },
      record {
        gives = (step_gives old.set.state event ready.gives).1;
        settings = ready.settings;
        narrow = ready.narrow;
        count = ready.count;
        few = ready.few;
      },
    )

carries_there : (links link : ℕ) (ask : Ask) (old : BenchState) → IsReady links old → link < links → HasCarried links link ask old
carries_there links link (Ask.Rise true) old ready is =
    let one = tells_there links link Command.Emergency (is_barred link Command.Emergency old) old ready is in
    let two = tells_there links link Command.Start (is_barred link Command.Start one.1) one.1 one.3 is in
    (two.0, two.1, (one.0, one.1, one.2, two.2), two.3)
carries_there links link (Ask.Rise false) old ready is =
    tells_there links link Command.Start (is_barred link Command.Start old) old ready is
carries_there links link Ask.Emergency old ready is =
    tells_there links link Command.Emergency (is_barred link Command.Emergency old) old ready is
carries_there links link Ask.Stop old ready is = tells_there links link Command.Stop (is_barred link Command.Stop old) old ready is
carries_there links link Ask.Test old ready is = asks_there links link (Event.Test link) old ready
carries_there links link Ask.Timed old ready is = asks_there links link (Event.Timed link) old ready
carries_there links link Ask.NoAnswer old ready is = asks_there links link (Event.NoAnswer link) old ready
carries_there links link Ask.Restore old ready is = asks_there links link (Event.Restore link) old ready
carries_there links link Ask.Redeclare old ready is = asks_there links link (Event.Redeclare link) old ready
carries_there links link Ask.BackTimeout old ready is = asks_there links link (Event.BackTimeout link) old ready

abbrev HasChain : ℕ → ℕ → Option Ask → Management → BenchState → Type 0
HasChain links link asked m old =
    (deeds : List Deed) × (last : Management) × (new : BenchState) × Chain link asked m old deeds None last new × IsReady links new

chain_within : (n links link : ℕ) (asked : Option Ask) (m : Management) (old : BenchState) → pending asked m ≤ n → IsReady links old
    → link < links → HasChain links link asked m old
chain_within n links link None m old few ready is = ([], m, old, (refl, refl, refl), ready)
chain_within zero links link (Some ask) m old few ready is = absurd (omega (arith, few))
chain_within (suc n) links link (Some ask) m old few ready is =
    let one = carries_there links link ask old ready is in
    let row = answered (is_none one.0) m in
    let rest = chain_within n links link row.asked row.next one.1 (omega (arith, few, answer_fewer (is_none one.0) m)) one.3 is in (
      record { ask = ask; refused = one.0 } ∷ rest.0,
      rest.1,
      rest.2,
      (one.1, refl, one.2, rest.3),
      rest.4,
    )

pub chain_there : (links link : ℕ) (asked : Option Ask) (m : Management) (old : BenchState) → IsReady links old → link < links
    → HasChain links link asked m old
chain_there links link asked m old ready is = chain_within (pending asked m) links link asked m old (omega arith) ready is
