-- What the bench's calls do for an end: one link's management asks (`carries_of`, `carries_some_of`), and a turn is taken
-- (`hears_of`, `broken_of`).
use Rattle.std.proofs.Common.{refl, sym, ap, subst, ◌≡◌, ◌∙◌, ◌<◌, ℕ, not, Bool, true, false, List, [], length, Option, None, Some, Result, Ok, Err, IfErr, IfOk, get_or, slice_get, slice_set}
use Rattle.l2_units.specs.declared.unit.Unit.{Unit as SignalUnit}
use Rattle.l3_link.specs.Management.{Management, is_off}
use Rattle.l3_link.specs.Table.{Row}
use Rattle.l3_link.specs.declared.signals.Ask.{Ask}
use Rattle.link_term.specs.Faults.{fault_of}
use Rattle.link_term.specs.declared.fault.TermFault.{TermFault}
use Rattle.set_events.specs.declared.fault.SetFault.{SetFault}
use Rattle.term_bench.specs.Ends.{BenchState}
use Rattle.term_bench.specs.Waiting.{Hears as HearsAlone}
use Rattle.term_bench.specs.declared.turn.Turn.{Turn}
use Rattle.term_managed.proofs.HearingLemmas.{kept_there, off_manages}
use Rattle.term_managed.proofs.KeptLemmas.{end_of, kept_at, kept_set}
use Rattle.term_managed.specs.Carrying.{Carries, CarriesSome, Chain, IsFault}
use Rattle.term_managed.specs.Ends.{ManagedState, is_on, noted}
use Rattle.term_managed.specs.Turns.{Hears, HearsBroken, Manages, ManagesSome, TurnAndDeeds, behind, behind_turn}
use Rattle.term_managed.specs.declared.kept.Kept.{Kept}
use Rattle.term_managed.specs.declared.turn.Deed.{Deed}

pub ok_weaker : {A E : Type 0} (result : Result A E) (P Q : A → Type 0) → ((a : A) → P a → Q a) → IfOk result P → IfOk result Q
ok_weaker (Ok a) P Q follows holds = follows a holds
ok_weaker (Err e) P Q follows holds = holds

pub err_weaker : {A E : Type 0} (result : Result A E) (P Q : E → Type 0) → ((e : E) → P e → Q e) → IfErr result P → IfErr result Q
err_weaker (Ok a) P Q follows holds = holds
err_weaker (Err e) P Q follows holds = follows e holds

-- WHAT A LINK'S MANAGEMENT ASKS, at the bench and the kept links of an end

pub carries_of : (s : ManagedState) (bench bench' : BenchState) (kept : List Kept) (index link : ℕ) (row : Management → Row) (was : Kept)
    (asked : Option Ask) (m m' : Management) (deeds : List Deed) → end_of bench kept ≡ s → length kept ≡ length bench.links
    → index ≡ link → link < length s.bench.links → was ≡ get_or kept index was → asked ≡ (row was.management).asked
    → m ≡ (row was.management).next → Chain link asked m bench deeds None m' bench'
    → Carries link row s deeds (end_of bench' (slice_set kept index (record was { management = m' })))
carries_of s bench bench' kept index link row was asked m m' deeds view same is below read asks next chain = record {
  was = was;
  management = m';
  is_at = kept_at s bench kept index link was view same is below read;
  chain = subst (λ (a : Option Ask). Chain link a (row was.management).next s.bench deeds None m' bench') asks
      (subst (λ (n : Management). Chain link asked n s.bench deeds None m' bench') next
      (subst (λ (e : ManagedState). Chain link asked m e.bench deeds None m' bench') view chain));
  kept_are = kept_set s bench kept index link (record was { management = m' }) view is;
}

pub carries_some_of : (s : ManagedState) (bench bench' : BenchState) (kept : List Kept) (index link : ℕ) (row : Management → Row)
    (was : Kept) (asked : Option Ask) (m m' : Management) (fault : SetFault) → end_of bench kept ≡ s → length kept ≡ length bench.links
    → index ≡ link → link < length s.bench.links → was ≡ get_or kept index was → asked ≡ (row was.management).asked
    → m ≡ (row was.management).next
    → (deeds : List Deed) × (ask : Ask) × Chain link asked m bench deeds (Some ask) m' bench' × IsFault fault bench'
    → CarriesSome link row fault s (end_of bench' (slice_set kept index (record was { management = m' })))
carries_some_of s bench bench' kept index link row was asked m m' fault view same is below read asks next broke = record {
  was = was;
  deeds = broke.0;
  ask = broke.1;
  management = m';
  is_at = kept_at s bench kept index link was view same is below read;
  chain = subst (λ (a : Option Ask). Chain link a (row was.management).next s.bench broke.0 (Some broke.1) m' bench') asks
      (subst (λ (n : Management). Chain link asked n s.bench broke.0 (Some broke.1) m' bench') next
      (subst (λ (e : ManagedState). Chain link asked m e.bench broke.0 (Some broke.1) m' bench') view broke.2));
  kept_are = kept_set s bench kept index link (record was { management = m' }) view is;
  told = broke.3;
}

-- whether it was activated
on_of : (b : Bool) → not b ≡ true → b ≡ false
on_of true h = absurd (cc h)
on_of false h = refl

off_of : (b : Bool) → not b ≡ false → b ≡ true
off_of true h = refl
off_of false h = absurd (cc h)

pub was_off : (kept : Option Kept) (was : Kept) → kept ≡ Some was → is_on kept ≡ true → is_off was.management.state ≡ false
was_off kept was is on = on_of (is_off was.management.state) (subst (λ (k : Option Kept). is_on k ≡ true) is on)

pub was_on : (kept : Option Kept) (was : Kept) → kept ≡ Some was → is_on kept ≡ false → is_off was.management.state ≡ true
was_on kept was is off = off_of (is_off was.management.state) (subst (λ (k : Option Kept). is_on k ≡ false) is off)

-- A TURN

pub off_goes : (link : ℕ) (s : ManagedState) (on : Bool) → on ≡ is_on (slice_get s.kept link) → on ≡ false → link < length s.kept
    → Manages link s [] s
off_goes link s on is off below =
    let there = kept_there s.kept link below in
    off_manages link s there.0 there.1 (ap (λ (k : Option Kept). is_on k) (sym there.1) ∙ sym is ∙ off)

pub hears_of : (link : ℕ) (bits : List Bool) (s : ManagedState) (bench between : BenchState) (kept : List Kept) (turn : Turn)
    (heard : TurnAndDeeds) (unit : Option SignalUnit) (new : ManagedState) → end_of bench kept ≡ s
    → HearsAlone link bits bench turn unit between → heard.turn ≡ turn
    → Manages link (noted link turn (end_of between kept)) heard.deeds new → Hears link bits s heard unit new
hears_of link bits s bench between kept turn heard unit new view hears is manages = record {
  between = between;
  hears = subst (λ (t : Turn). HearsAlone link bits s.bench t unit between) (sym is)
      (subst (λ (e : ManagedState). HearsAlone link bits e.bench turn unit between) view hears);
  manages = subst (λ (t : Turn). Manages link (behind_turn link t between s) heard.deeds new) (sym is)
      (subst (λ (e : ManagedState). Manages link (behind_turn link turn between e) heard.deeds new) view manages);
}

pub broken_of : (link : ℕ) (bits : List Bool) (s : ManagedState) (bench between : BenchState) (kept : List Kept) (turn : Turn)
    (unit : Option SignalUnit) (fault : TermFault) (new : ManagedState) → end_of bench kept ≡ s
    → HearsAlone link bits bench turn unit between
    → (told : SetFault) × (fault ≡ fault_of told) × ManagesSome link told (noted link turn (end_of between kept)) new
    → HearsBroken link bits fault s new
broken_of link bits s bench between kept turn unit fault new view hears broke =
    behind between turn unit broke.0 broke.1 (subst (λ (e : ManagedState). HearsAlone link bits e.bench turn unit between) view hears)
    (subst (λ (e : ManagedState). ManagesSome link broke.0 (behind_turn link turn between e) new) view broke.2)
