-- WHAT COMES ON A LINE of an end whose links are managed: in one way (`one_hearing`), and each is heard (`pieces_there`); and
-- a link that is off asks nothing (`off_alone`).
use Rattle.std.proofs.Common.{refl, sym, ap, subst, arith, ◌≡◌, ◌∙◌, ◌<◌, ℕ, zero, suc, not, Bool, true, false, List, [], ◌∷◌, ◌++◌, length, Option, None, Some, slice_get, slice_set, if◌then◌else◌}
use Rattle.std.proofs.lemmas.List.{length-set}
use Rattle.std.specs.Option.{option_to_list}
use Rattle.l2_units.specs.declared.unit.Unit.{Unit as SignalUnit}
use Rattle.l3_link.specs.Management.{Management, is_off}
use Rattle.l3_link.specs.Table.{Row, silent, turned}
use Rattle.set_model.proofs.Lists.{set_same}
use Rattle.term_bench.specs.Ends.{BenchState}
use Rattle.term_bench.specs.Ready.{IsReady}
use Rattle.term_bench.specs.Waiting.{HearsPiece as HearsPieceAlone, TurnAndUnit}
use Rattle.term_bench.specs.declared.turn.Turn.{Turn}
use Rattle.term_bench.proofs.OneLemmas.{one_hearing as one_alone}
use Rattle.term_bench.proofs.TurnsThere.{pieces_there as pieces_alone}
use Rattle.term_managed.proofs.ChainLemmas.{chain_alone, chain_there}
use Rattle.term_managed.specs.Carrying.{Carries, Chain}
use Rattle.term_managed.specs.Ends.{ManagedState, goes_out, gone_out, is_on, noted, noted_as, seen_at}
use Rattle.term_managed.specs.Laws.{EachIsHeard, IsBenchWhileOff, IsReadyEnd, OneHearing}
use Rattle.term_managed.specs.Turns.{HeardTurn, Hears, HearsPiece, HearsPieces, Manages, TurnAndDeeds, behind_turn}
use Rattle.term_managed.specs.declared.kept.Kept.{Kept}
use Rattle.term_managed.specs.declared.turn.Deed.{Deed}

-- What is kept.

pub kept_one : (kept : List Kept) (link : ℕ) (a b : Kept) → slice_get kept link ≡ Some a → slice_get kept link ≡ Some b → a ≡ b
kept_one kept link a b x y = let both : Some a ≡ Some b = sym x ∙ y in cc

pub kept_there : (kept : List Kept) (link : ℕ) → link < length kept → (was : Kept) × (slice_get kept link ≡ Some was)
kept_there [] link is = absurd (omega (arith, is))
kept_there (k ∷ kept) zero is = (k, refl)
kept_there (k ∷ kept) (suc link) is = kept_there kept link (omega (arith, is))

pub same_end : (a b : ManagedState) → a.bench ≡ b.bench → a.kept ≡ b.kept → a ≡ b
same_end a b bench kept =
    ap (λ (x : BenchState). record a { bench = x }) bench ∙ ap (λ (x : List Kept). record b { kept = x }) kept

noted_size : (tried : Bool) (link : ℕ) (was : Option Kept) (kept : List Kept) → length (noted_as tried link was kept) ≡ length kept
noted_size tried link None kept = refl
noted_size tried link (Some was) kept = length-set kept link (record was { tried = tried })

pub noted_kept : (link : ℕ) (turn : Turn) (s : ManagedState) → length (noted link turn s).kept ≡ length s.kept
noted_kept link turn s = go (goes_out turn)
  where
    go : (out : Bool) → length (if out then gone_out link s else s).kept ≡ length s.kept
    go true = noted_size _ link (slice_get s.kept link) s.kept
    go false = refl

pub noted_bench : (link : ℕ) (turn : Turn) (s : ManagedState) → (noted link turn s).bench ≡ s.bench
noted_bench link turn s = go (goes_out turn)
  where
    go : (out : Bool) → (if out then gone_out link s else s).bench ≡ s.bench
    go true = refl
    go false = refl

-- A link that is off.

is_off_of : (b : Bool) → not b ≡ false → b ≡ true
is_off_of true h = refl
is_off_of false h = absurd (cc h)

if_true : {A : Type 0} (b : Bool) (x y : A) → b ≡ true → (if b then x else y) ≡ x
if_true true x y h = refl
if_true false x y h = absurd (cc h)

silent_row : (link : ℕ) (s : ManagedState) (was : Kept) → is_on (Some was) ≡ false
    → turned (seen_at link s) was.management ≡ silent was.management
silent_row link s was off = if_true (is_off was.management.state) _ _ (is_off_of (is_off was.management.state) off)

nothing_asked : (link : ℕ) (m last : Management) (old new : BenchState) (deeds : List Deed) → Chain link None m old deeds None last new
    → (deeds ≡ []) × (last ≡ m) × (new ≡ old)
nothing_asked link m last old new [] chain = (refl, chain.1, chain.2)
nothing_asked link m last old new (deed ∷ deeds) chain = let no : None ≡ Some deed.ask = chain.1 in absurd cc

pub off_alone : IsBenchWhileOff
off_alone link old deeds new off manages =
    let was = manages.was in
    let row = silent_row link old was (subst (λ (k : Option Kept). is_on k ≡ false) manages.is_at off) in
    let nothing = nothing_asked link was.management manages.management old.bench new.bench deeds
    (subst (λ (r : Row). Chain link r.asked r.next old.bench deeds None manages.management new.bench) row manages.chain) in (
      nothing.0,
      same_end new old nothing.2
          (manages.kept_are ∙ ap (λ (m : Management). slice_set old.kept link (record was { management = m })) nothing.1
          ∙ set_same old.kept link was manages.is_at),
    )

pub off_manages : (link : ℕ) (s : ManagedState) (was : Kept) → slice_get s.kept link ≡ Some was → is_on (Some was) ≡ false
    → Manages link s [] s
off_manages link s was is_at off = record {
  was = was;
  management = was.management;
  is_at = is_at;
  chain = subst (λ (r : Row). Chain link r.asked r.next s.bench [] None was.management s.bench) (sym (silent_row link s was off))
      (refl, refl, refl);
  kept_are = sym (set_same s.kept link was is_at);
}

-- In one way.

pub carries_one : (link : ℕ) (row : Management → Row) (old : ManagedState) (a b : List Deed) (x y : ManagedState) → Carries link row old a x
    → Carries link row old b y → (a ≡ b) × (x ≡ y)
carries_one link row old a b x y f g =
    let was = kept_one old.kept link f.was g.was f.is_at g.is_at in
    let one = chain_alone link (row g.was.management).asked (row g.was.management).next old.bench a b f.management g.management x.bench y.bench
    (subst (λ (k : Kept). Chain link (row k.management).asked (row k.management).next old.bench a None f.management x.bench) was f.chain)
    g.chain in (
      one.deeds,
      same_end x y one.benches
          (f.kept_are ∙ ap (λ (k : Kept). slice_set old.kept link (record k { management = f.management })) was
          ∙ ap (λ (m : Management). slice_set old.kept link (record g.was { management = m })) one.managements ∙ sym g.kept_are),
    )

same_list : (a b : Option TurnAndUnit) → option_to_list a ++ [] ≡ option_to_list b ++ [] → a ≡ b
same_list None None h = refl
same_list None (Some b) h = absurd (cc h)
same_list (Some a) None h = absurd (cc h)
same_list (Some a) (Some b) h = let same : a ≡ b = cc in ap (λ (t : TurnAndUnit). Some t) same

piece_alone : (link : ℕ) (bits : List Bool) (old : BenchState) (a b : Option TurnAndUnit) (x y : BenchState)
    → HearsPieceAlone link bits old a x → HearsPieceAlone link bits old b y → (a ≡ b) × (x ≡ y)
piece_alone link bits old a b x y f g =
    let one = one_alone link (bits ∷ []) old (option_to_list a ++ []) (option_to_list b ++ []) x y
    (x, a, [], f, (refl, refl), refl) (y, b, [], g, (refl, refl), refl) in (same_list a b one.0, one.1)

same_turn : (a b : TurnAndDeeds) → a.turn ≡ b.turn → a.deeds ≡ b.deeds → a ≡ b
same_turn a b turn deeds =
    ap (λ (t : Turn). record a { turn = t }) turn ∙ ap (λ (ds : List Deed). record b { deeds = ds }) deeds

same_heard : (a b : HeardTurn) → a.turn ≡ b.turn → a.unit ≡ b.unit → a ≡ b
same_heard a b turn unit =
    ap (λ (t : TurnAndDeeds). record a { turn = t }) turn ∙ ap (λ (u : Option SignalUnit). record b { unit = u }) unit

some_one : (a b : TurnAndUnit) → Some a ≡ Some b → a ≡ b
some_one a b h = cc

hears_one : (link : ℕ) (bits : List Bool) (old : ManagedState) (a b : HeardTurn) (x y : ManagedState)
    → Hears link bits old a.turn a.unit x → Hears link bits old b.turn b.unit y → (a ≡ b) × (x ≡ y)
hears_one link bits old a b x y f g =
    let one = piece_alone link bits old.bench (Some (record { turn = a.turn.turn; unit = a.unit }))
    (Some (record { turn = b.turn.turn; unit = b.unit })) f.between g.between f.hears g.hears in
    let both = some_one _ _ one.0 in
    let turns : a.turn.turn ≡ b.turn.turn = ap (λ (t : TurnAndUnit). t.turn) both in
    let behind = carries_one link (turned (seen_at link (behind_turn link b.turn.turn g.between old)))
    (behind_turn link b.turn.turn g.between old) a.turn.deeds b.turn.deeds x y
    (subst (λ (t : Turn). Manages link (behind_turn link t g.between old) a.turn.deeds x) turns
    (subst (λ (s : BenchState). Manages link (behind_turn link a.turn.turn s old) a.turn.deeds x) one.1 f.manages)) g.manages in (
      same_heard a b (same_turn a.turn b.turn turns behind.0) (ap (λ (t : TurnAndUnit). t.unit) both),
      behind.1,
    )

piece_one : (link : ℕ) (bits : List Bool) (old : ManagedState) (a b : Option HeardTurn) (x y : ManagedState)
    → HearsPiece link bits old a x → HearsPiece link bits old b y → (a ≡ b) × (x ≡ y)
piece_one link bits old None None x y f g =
    (refl, same_end x y (piece_alone link bits old.bench None None x.bench y.bench f.waits g.waits).1 (f.kept_are ∙ sym g.kept_are))
piece_one link bits old None (Some b) x y f g =
    let no = (piece_alone link bits old.bench None (Some (record { turn = b.turn.turn; unit = b.unit })) x.bench g.between f.waits g.hears).0 in
    absurd (cc no)
piece_one link bits old (Some a) None x y f g =
    let no = (piece_alone link bits old.bench (Some (record { turn = a.turn.turn; unit = a.unit })) None f.between y.bench f.hears g.waits).0 in
    absurd (cc no)
piece_one link bits old (Some a) (Some b) x y f g =
    let one = hears_one link bits old a b x y f g in (ap (λ (t : HeardTurn). Some t) one.0, one.1)

pub one_hearing : OneHearing
one_hearing link [] old a b x y first second = (first.0 ∙ sym second.0, first.1 ∙ sym second.1)
one_hearing link (bits ∷ pieces) old a b x y first second =
    let one = piece_one link bits old first.1 second.1 first.0 second.0 first.3 second.3 in
    let rest = one_hearing link pieces second.0 first.2 second.2 x y
    (subst (λ (s : ManagedState). HearsPieces link pieces s first.2 x) one.1 first.4) second.4 in (
      first.5 ∙ ap (λ (t : Option HeardTurn). option_to_list t ++ first.2) one.0
          ∙ ap (λ (ts : List HeardTurn). option_to_list second.1 ++ ts) rest.0 ∙ sym second.5,
      rest.1,
    )

-- Each is heard.

abbrev HasPiece : ℕ → ℕ → List Bool → ManagedState → Type 0
HasPiece links link bits old =
    (one : Option HeardTurn) × (new : ManagedState) × HearsPiece link bits old one new × IsReadyEnd links new

pub carries_there : (links link : ℕ) (row : Management → Row) (s : ManagedState) → IsReadyEnd links s → link < links
    → (deeds : List Deed) × (new : ManagedState) × Carries link row s deeds new × IsReadyEnd links new
carries_there links link row s ready is =
    let there = kept_there s.kept link (subst (λ n. link < n) (sym ready.kept) is) in
    let was : Kept = there.0 in
    let first = row was.management in
    let all = chain_there links link first.asked first.next s.bench ready.bench is in
    let now : Kept = record was { management = all.1 } in (
      all.0,
      record { bench = all.2; kept = slice_set s.kept link now },
      record { was = was; management = all.1; is_at = there.1; chain = all.3; kept_are = refl },
      record { bench = all.4; kept = length-set s.kept link now ∙ ready.kept },
    )

piece_there : (links link : ℕ) (bits : List Bool) (old : ManagedState) (found : Option TurnAndUnit) (between : BenchState)
    → IsReadyEnd links old → link < links → HearsPieceAlone link bits old.bench found between → IsReady links between
    → HasPiece links link bits old
piece_there links link bits old None between ready is hears after = (
  None,
  record { bench = between; kept = old.kept },
  record { waits = hears; kept_are = refl },
  record { bench = after; kept = ready.kept },
)
piece_there links link bits old (Some heard) between ready is hears after =
    let mid : ManagedState = behind_turn link heard.turn between old in
    let behind = carries_there links link (turned (seen_at link mid)) mid (record {
      bench = subst (λ (b : BenchState). IsReady links b) (sym (noted_bench link heard.turn (record old { bench = between }))) after;
      kept = noted_kept link heard.turn (record old { bench = between }) ∙ ready.kept;
    }) is in (
      Some (record { turn = record { turn = heard.turn; deeds = behind.0 }; unit = heard.unit }),
      behind.1,
      record { between = between; hears = hears; manages = behind.2 },
      behind.3,
    )

pub pieces_there : EachIsHeard
pieces_there links link [] old ready is short = ([], old, (refl, refl), ready)
pieces_there links link (bits ∷ pieces) old ready is short =
    let alone = pieces_alone links link (bits ∷ []) old.bench ready.bench is (short.0, tt) in
    let own = alone.2 in
    let one = piece_there links link bits old own.1 own.0 ready is own.3
    (subst (λ (b : BenchState). IsReady links b) own.4.1 alone.3) in
    let rest = pieces_there links link pieces one.1 one.3 is short.1 in (
      option_to_list one.0 ++ rest.0,
      rest.1,
      (one.1, one.0, rest.0, one.2, rest.2, refl),
      rest.3,
    )
