-- WHAT A UNIT BRINGS: the order, if any, and the link that it's about; that the set takes it as one, whatever comes of it
-- (`takes_took`, `leaves_took`), and so leaves the same past (`past_same`).
use Rattle.std.proofs.Common.{refl, ◌≡◌, ◌∙◌, ap, sym, ℕ, ◌==◌, ◌++◌, Bool, true, false, List, [], ◌∷◌, length, slice_get, Option, Some, None, cond}
use Rattle.l2_units.specs.declared.profile.Profile.{Profile}
use Rattle.l2_units.specs.declared.unit.Unit.{Unit as SignalUnit}
use Rattle.l2_units.specs.declared.unit.Unit.TheVariants.{Fisu, Lssu, Msu}
use Rattle.l3_orders.specs.declared.order.Order.{Order}
use Rattle.l3_orders.specs.declared.order.Order.TheVariants.{Coo, Coa, Cbd, Cba, Eco, Eca}
use Rattle.l3_orders.specs.Grammar.{order_of, link_of}
use Rattle.pair_steps.specs.declared.step.Shown.TheVariants.{Answered}
use Rattle.set_events.specs.declared.answer.Answer.TheVariants.{Heard as HeardBack}
use Rattle.set_events.specs.declared.answer.Report.{Report}
use Rattle.set_events.specs.declared.answer.Took.{Took}
use Rattle.set_events.specs.declared.answer.Took.TheVariants.{Nothing as NothingTaken, Message as TookMessage, Order as TookOrder, Ignored}
use Rattle.set_model.specs.declared.phase.Phase.{Phase}
use Rattle.set_model.specs.declared.phase.Phase.TheVariants.{Up, Down, Settled}
use Rattle.set_model.specs.declared.reached.Reached.{Reached}
use Rattle.set_model.specs.declared.reached.Reached.TheVariants.{Upto, Unknown}
use Rattle.set_model.specs.Changeover.{Obeyed, changed_over, answered, at_link, obeyed_at, order_obeyed, obeyed}
use Rattle.set_model.specs.Rows.{service_indicator}
use Rattle.set_model.specs.State.{LinkState, State}
use Rattle.set_model.specs.Step.{brought, takes}
use Rattle.set_veiled.specs.Veil.{IsOfOther, IsNoOrderOf}
use Rattle.pair_model.specs.Run.{Message, Past, past_heard, taken_by, got_by, body_in, added_at}
use Rattle.set_model.specs.Rows.{stream_of}
use Rattle.pair_changeover.proofs.Texts.{plain_in}
use Rattle.pair_changeover.proofs.Views.{IsChangeover}
use Rattle.pair_rises.specs.Rises.{about_of, order_about, is_order}

abbrev pub order_in : Profile → SignalUnit → Option Order
order_in profile (Msu head body) = order_of profile body.items
order_in profile _ = None

pub about_in : (profile : Profile) (unit : SignalUnit) → order_about profile unit ≡ about_of (order_in profile unit)
about_in profile (Fisu head) = refl
about_in profile (Lssu head status) = refl
about_in profile (Msu head body) = refl

pub elsewhere_in : (l : ℕ) (s : State) (unit : SignalUnit) → IsOfOther l (order_in s.settings.profile unit) → IsNoOrderOf l s unit
elsewhere_in l s (Fisu head) e = tt
elsewhere_in l s (Lssu head status) e = tt
elsewhere_in l s (Msu head body) e = e

pub brought_in : (profile : Profile) (accept : Bool) (unit : SignalUnit) (body : List ℕ) → brought accept unit ≡ Some body → order_in profile unit ≡ order_of profile body
brought_in profile accept (Fisu head) body e = absurd cc
brought_in profile accept (Lssu head status) body e = absurd cc
brought_in profile true (Msu head items) body e = ap (order_of profile) (let is : items.items ≡ body = cc in is)
brought_in profile false (Msu head items) body e = absurd cc

-- the link that an order of a changeover is about
abbrev pub link_in : Option Order → Option ℕ
link_in (Some (Coo n fsn)) = Some n
link_in (Some (Coa n fsn)) = Some n
link_in (Some (Eco n)) = Some n
link_in (Some (Eca n)) = Some n
link_in _ = None

-- one that tells that a link was left is such
pub about_link : (order : Option Order) (n : ℕ) → about_of order ≡ Some n → link_in order ≡ Some n
about_link None n e = absurd cc
about_link (Some (Coo m fsn)) n e = e
about_link (Some (Coa m fsn)) n e = absurd cc
about_link (Some (Cbd m code)) n e = absurd cc
about_link (Some (Cba m code)) n e = absurd cc
about_link (Some (Eco m)) n e = e
about_link (Some (Eca m)) n e = absurd cc

-- one that isn't about this link
pub of_other : (order : Option Order) (l : ℕ) → ((n : ℕ) → link_in order ≡ Some n → (n == l) ≡ false) → IsOfOther l order
of_other None l other = tt
of_other (Some (Coo n fsn)) l other = other n refl
of_other (Some (Coa n fsn)) l other = other n refl
of_other (Some (Cbd n code)) l other = tt
of_other (Some (Cba n code)) l other = tt
of_other (Some (Eco n)) l other = other n refl
of_other (Some (Eca n)) l other = other n refl

-- an order of a changeover about it
pub record AboutLink (order : Option Order) (n : ℕ) : Type 0 where
  pub the : Order
  pub is : order ≡ Some the
  pub over : IsChangeover the
  pub of : link_of the ≡ n

pub order_about_link : (order : Option Order) (n : ℕ) → link_in order ≡ Some n → AboutLink order n
order_about_link None n e = absurd cc
order_about_link (Some (Coo m fsn)) n e = record { the = Coo m fsn; is = refl; over = tt; of = let same : m ≡ n = cc in same }
order_about_link (Some (Coa m fsn)) n e = record { the = Coa m fsn; is = refl; over = tt; of = let same : m ≡ n = cc in same }
order_about_link (Some (Cbd m code)) n e = absurd cc
order_about_link (Some (Cba m code)) n e = absurd cc
order_about_link (Some (Eco m)) n e = record { the = Eco m; is = refl; over = tt; of = let same : m ≡ n = cc in same }
order_about_link (Some (Eca m)) n e = record { the = Eca m; is = refl; over = tt; of = let same : m ≡ n = cc in same }

-- THAT IT'S TAKEN AS ONE, whatever comes of it
abbrev pub is_no_message : Took → Bool
is_no_message TookOrder = true
is_no_message Ignored = true
is_no_message _ = false

changed_took : (reached : Reached) (n : ℕ) (link : LinkState) (phase : Phase) (s : State) → is_no_message (changed_over reached n link phase s).took ≡ true
changed_took reached n link Up s = refl
changed_took reached n link Down s = refl
changed_took reached n link Settled s = refl

answered_took : (reached : Reached) (n : ℕ) (link : LinkState) (phase : Phase) (s : State) → is_no_message (answered reached n link phase s).took ≡ true
answered_took reached n link Up s = refl
answered_took reached n link Down s = refl
answered_took reached n link Settled s = refl

at_took : (n : ℕ) (s : State) (f : LinkState → Phase → State → Obeyed)
    → ((link : LinkState) (phase : Phase) → is_no_message (f link phase s).took ≡ true) → is_no_message (obeyed_at n f s).took ≡ true
at_took n s f each = go (slice_get s.links n)
  where
    go : (o : Option LinkState) → is_no_message (at_link n s (λ link. f link link.phase s) o).took ≡ true
    go None = refl
    go (Some link) = each link link.phase

order_took : (order : Order) (s : State) → IsChangeover order → is_no_message (order_obeyed order s).took ≡ true
order_took (Coo n fsn) s over = at_took n s (changed_over (Upto fsn) n) (λ link phase. changed_took (Upto fsn) n link phase s)
order_took (Eco n) s over = at_took n s (changed_over Unknown n) (λ link phase. changed_took Unknown n link phase s)
order_took (Coa n fsn) s over = at_took n s (answered (Upto fsn) n) (λ link phase. answered_took (Upto fsn) n link phase s)
order_took (Eca n) s over = at_took n s (answered Unknown n) (λ link phase. answered_took Unknown n link phase s)
order_took (Cbd n code) s over = absurd over
order_took (Cba n code) s over = absurd over

pub takes_took : (body : List ℕ) (order : Order) (s : State) → order_of s.settings.profile body ≡ Some order → IsChangeover order
    → is_no_message (takes (Some body) s).took ≡ true
takes_took body order s is over = go (service_indicator body == 0) refl
  where
    go : (b : Bool) → (service_indicator body == 0) ≡ b
        → is_no_message (cond b (obeyed (order_of s.settings.profile body) s) (record { took = TookMessage; state = record s { inbox = s.inbox ++ body ∷ [] } })).took ≡ true
    go true e = ap (λ (o : Option Order). is_no_message (obeyed o s).took) is ∙ order_took order s over
    go false e = absurd (let no : None ≡ Some order = sym (plain_in s.settings.profile body e) ∙ is in cc)

-- and isn't ignored, where it tells that a link was left
changed_is : (reached : Reached) (n : ℕ) (link : LinkState) (phase : Phase) (s : State) → is_order (changed_over reached n link phase s).took ≡ true
changed_is reached n link Up s = refl
changed_is reached n link Down s = refl
changed_is reached n link Settled s = refl

leaves_is : (order : Order) (n : ℕ) (s : State) (link : LinkState) → slice_get s.links n ≡ Some link → about_of (Some order) ≡ Some n → is_order (order_obeyed order s).took ≡ true
leaves_is (Coo m fsn) n s link there e =
    let same : m ≡ n = cc in
    ap (λ (o : Option LinkState). is_order (at_link m s (λ x. changed_over (Upto fsn) m x x.phase s) o).took) (ap (slice_get s.links) same ∙ there)
    ∙ changed_is (Upto fsn) m link link.phase s
leaves_is (Eco m) n s link there e =
    let same : m ≡ n = cc in
    ap (λ (o : Option LinkState). is_order (at_link m s (λ x. changed_over Unknown m x x.phase s) o).took) (ap (slice_get s.links) same ∙ there)
    ∙ changed_is Unknown m link link.phase s
leaves_is (Coa m fsn) n s link there e = absurd cc
leaves_is (Eca m) n s link there e = absurd cc
leaves_is (Cbd m code) n s link there e = absurd cc
leaves_is (Cba m code) n s link there e = absurd cc

pub leaves_took : (body : List ℕ) (order : Order) (n : ℕ) (s : State) (link : LinkState) → slice_get s.links n ≡ Some link
    → order_of s.settings.profile body ≡ Some order → about_of (Some order) ≡ Some n → is_order (takes (Some body) s).took ≡ true
leaves_took body order n s link there is e = go (service_indicator body == 0) refl
  where
    go : (b : Bool) → (service_indicator body == 0) ≡ b
        → is_order (cond b (obeyed (order_of s.settings.profile body) s) (record { took = TookMessage; state = record s { inbox = s.inbox ++ body ∷ [] } })).took ≡ true
    go true f = ap (λ (o : Option Order). is_order (obeyed o s).took) is ∙ leaves_is order n s link there e
    go false f = absurd (let no : None ≡ Some order = sym (plain_in s.settings.profile body f) ∙ is in cc)

-- and so the past is the same
taken_order : (took : Took) (body : List ℕ) → is_no_message took ≡ true → taken_by took body ≡ body ∷ []
taken_order NothingTaken body e = absurd cc
taken_order TookMessage body e = refl
taken_order TookOrder body e = refl
taken_order Ignored body e = refl

got_order : (took : Took) (message : Option Message) (body : List ℕ) → is_no_message took ≡ true → got_by took message body ≡ []
got_order NothingTaken message body e = refl
got_order TookMessage message body e = absurd cc
got_order TookOrder message body e = refl
got_order Ignored message body e = refl

pub past_same : (k : ℕ) (unit : SignalUnit) (sent : List Message) (a b : Report) (past : Past) → is_no_message a.took ≡ true → is_no_message b.took ≡ true
    → past_heard k unit sent (Answered (HeardBack a)) past ≡ past_heard k unit sent (Answered (HeardBack b)) past
past_same k unit sent a b past e f =
    let body = body_in unit in
    let message = slice_get sent (length (past.taken k)) in
    ap (λ (more : List (List ℕ)). record past { taken = added_at k more past.taken; got = added_at (stream_of body) (got_by a.took message body) past.got })
    (taken_order a.took body e ∙ sym (taken_order b.took body f))
    ∙ ap (λ (more : List Message). record past { taken = added_at k (taken_by b.took body) past.taken; got = added_at (stream_of body) more past.got })
    (got_order a.took message body e ∙ sym (got_order b.took message body f))
