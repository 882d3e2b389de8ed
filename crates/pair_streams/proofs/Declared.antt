-- DECLARATIONS AND THEIR ACKNOWLEDGEMENTS among messages, and what stands behind a declaration: nothing of the stream,
-- for each of its code (`ClearBehind`), also when more joins or the front leaves (`clear_joined`, `clear_rest`, by
-- induction on the list). And which octets are read as what: a set's declaration tells its own code alone
-- (`cbd_other`), its acknowledgement too (`cba_other`), and neither an order of a changeover nor a user's message is
-- one (`leaving_declares`, `users_declare`); that is computed, case by case on the profile. Codes.antt says with these
-- words what holds; Declaring.antt, Flows.antt, Settled.antt, Turned.antt and Hearing.antt use the lemmas.
use Rattle.std.proofs.Common.{refl, ◌≡◌, ◌∙◌, sym, ℕ, ◌==◌, ◌+◌, ◌*◌, ◌%◌, ◌/◌, Bool, true, false, List, [], ◌∷◌, ◌++◌, Option, Some, None, cond, inl, inr}
use Rattle.std.proofs.lemmas.Bool.{eq-eqb}
use Rattle.l3_orders.specs.declared.order.Order.{Order}
use Rattle.l3_orders.specs.declared.order.Order.TheVariants.{Coo, Coa, Cbd, Cba, Eco}
use Rattle.l3_orders.specs.Grammar.{text, order_any, first_of, label_number}
use Rattle.l2_units.specs.declared.profile.Profile.{Profile}
use Rattle.l2_units.specs.declared.profile.Profile.TheVariants.{Narrow, Wide}
use Rattle.set_model.specs.Changeover.{leaving_order}
use Rattle.set_model.specs.State.{LinkState, Settings, last_accepted}
use Rattle.pair_model.specs.Run.{message_by, Message}
use Rattle.pair_changeover.proofs.Views.{Among}
use Rattle.pair_streams.specs.Streams.{those_of}
use Rattle.pair_streams.proofs.Filtered.{none_both}

-- one of this code, about whichever link
pub record Declares (code : ℕ) (m : Message) : Type 0 where
  pub link : ℕ
  pub is : order_any m.body ≡ Some (Cbd link code)

pub record Acknowledges (code : ℕ) (m : Message) : Type 0 where
  pub link : ℕ
  pub is : order_any m.body ≡ Some (Cba link code)

abbrev pub NoneDeclares : ℕ → List Message → Type 0
NoneDeclares code ms = (m : Message) → Among m ms → Declares code m → ⊥

pub not_both : (c d : ℕ) (m : Message) → Declares c m → Acknowledges d m → ⊥
not_both c d m a b = let no : Some (Cbd a.link c) ≡ Some (Cba b.link d) = sym a.is ∙ b.is in absurd cc

pub users_declare : (code : ℕ) (m : Message) → order_any m.body ≡ None → Declares code m → ⊥
users_declare code m none d = let no : None ≡ Some (Cbd d.link code) = sym none ∙ d.is in absurd cc

pub users_acknowledge : (code : ℕ) (m : Message) → order_any m.body ≡ None → Acknowledges code m → ⊥
users_acknowledge code m none d = let no : None ≡ Some (Cba d.link code) = sym none ∙ d.is in absurd cc

-- BEHIND each declaration of the code nothing of the stream stands
abbrev pub ClearBehind : ℕ → ℕ → List Message → Type 0
ClearBehind stream code [] = Unit {0}
ClearBehind stream code (m ∷ ms) = (Declares code m → those_of stream ms ≡ []) × ClearBehind stream code ms

-- where none declares, or nothing of the stream stands
pub clear_none : (stream code : ℕ) (ms : List Message) → NoneDeclares code ms → ClearBehind stream code ms
clear_none stream code [] none = tt
clear_none stream code (m ∷ ms) none = ((λ d. absurd (none m (inl refl) d)), clear_none stream code ms (λ x a d. none x (inr a) d))

-- more stands behind: nothing of the stream, or there was no declaration
pub clear_joined : (stream code : ℕ) (xs ys : List Message) → ClearBehind stream code xs → those_of stream ys ≡ []
    → ClearBehind stream code ys → ClearBehind stream code (xs ++ ys)
clear_joined stream code [] ys a none b = b
clear_joined stream code (x ∷ xs) ys a none b = ((λ d. none_both stream xs ys (a.0 d) none), clear_joined stream code xs ys a.1 none b)

pub clear_rest : (stream code : ℕ) (xs ys : List Message) → ClearBehind stream code (xs ++ ys) → ClearBehind stream code ys
clear_rest stream code [] ys c = c
clear_rest stream code (x ∷ xs) ys c = clear_rest stream code xs ys c.1

pub clear_after : (stream code : ℕ) (xs ys : List Message) → NoneDeclares code xs → ClearBehind stream code ys → ClearBehind stream code (xs ++ ys)
clear_after stream code [] ys none b = b
clear_after stream code (x ∷ xs) ys none b = ((λ d. absurd (none x (inl refl) d)), clear_after stream code xs ys (λ m a d. none m (inr a) d) b)

-- TEXTS: which order each is read as, whatever its envelope: in both profiles, or in one alone
abbrev InBoth : Bool → Order → Option Order
InBoth b told = first_of (cond b (Some told) None) (cond b (Some told) None)

abbrev InNarrow : Bool → Order → Option Order
InNarrow b told = first_of (cond b (Some told) None) (cond b None None)

abbrev InWide : Bool → Order → Option Order
InWide b told = first_of (cond b None None) (cond b (Some told) None)

declares_both : (code : ℕ) (told : Order) → ((link : ℕ) → told ≡ Cbd link code → ⊥) → (b : Bool) (link : ℕ) → InBoth b told ≡ Some (Cbd link code) → ⊥
declares_both code told not true link e = not link cc
declares_both code told not false link e = absurd cc

acknowledges_both : (code : ℕ) (told : Order) → ((link : ℕ) → told ≡ Cba link code → ⊥) → (b : Bool) (link : ℕ) → InBoth b told ≡ Some (Cba link code) → ⊥
acknowledges_both code told not true link e = not link cc
acknowledges_both code told not false link e = absurd cc

declares_narrow : (code : ℕ) (told : Order) → ((link : ℕ) → told ≡ Cbd link code → ⊥) → (b : Bool) (link : ℕ) → InNarrow b told ≡ Some (Cbd link code) → ⊥
declares_narrow code told not true link e = not link cc
declares_narrow code told not false link e = absurd cc

acknowledges_narrow : (code : ℕ) (told : Order) → ((link : ℕ) → told ≡ Cba link code → ⊥) → (b : Bool) (link : ℕ) → InNarrow b told ≡ Some (Cba link code) → ⊥
acknowledges_narrow code told not true link e = not link cc
acknowledges_narrow code told not false link e = absurd cc

declares_wide : (code : ℕ) (told : Order) → ((link : ℕ) → told ≡ Cbd link code → ⊥) → (b : Bool) (link : ℕ) → InWide b told ≡ Some (Cbd link code) → ⊥
declares_wide code told not true link e = not link cc
declares_wide code told not false link e = absurd cc

acknowledges_wide : (code : ℕ) (told : Order) → ((link : ℕ) → told ≡ Cba link code → ⊥) → (b : Bool) (link : ℕ) → InWide b told ≡ Some (Cba link code) → ⊥
acknowledges_wide code told not true link e = not link cc
acknowledges_wide code told not false link e = absurd cc

coo_declares_in : (p : Profile) (sio dpc opc l fsn other link : ℕ) → order_any (text p (Coo l fsn) sio dpc opc) ≡ Some (Cbd link other) → ⊥
coo_declares_in Narrow sio dpc opc l fsn other link e =
    declares_narrow other (Coo (label_number dpc opc l / 0x1000000 % 256 / 16) ((fsn + 128 * 0) % 128))
    (λ n e. absurd cc) (sio % 16 == 0) link e
coo_declares_in Wide sio dpc opc l fsn other link e =
    declares_wide other (Coo (label_number dpc opc l / 0x1000000 % 256 / 16)
    (((fsn + 4096 * 0) % 256 + 256 * ((fsn + 4096 * 0) / 256)) % 4096)) (λ n e. absurd cc) (sio % 16 == 0) link e

coo_acknowledges_in : (p : Profile) (sio dpc opc l fsn other link : ℕ) → order_any (text p (Coo l fsn) sio dpc opc) ≡ Some (Cba link other) → ⊥
coo_acknowledges_in Narrow sio dpc opc l fsn other link e =
    acknowledges_narrow other (Coo (label_number dpc opc l / 0x1000000 % 256 / 16) ((fsn + 128 * 0) % 128))
    (λ n e. absurd cc) (sio % 16 == 0) link e
coo_acknowledges_in Wide sio dpc opc l fsn other link e =
    acknowledges_wide other (Coo (label_number dpc opc l / 0x1000000 % 256 / 16)
    (((fsn + 4096 * 0) % 256 + 256 * ((fsn + 4096 * 0) / 256)) % 4096)) (λ n e. absurd cc) (sio % 16 == 0) link e

coa_declares_in : (p : Profile) (sio dpc opc l fsn other link : ℕ) → order_any (text p (Coa l fsn) sio dpc opc) ≡ Some (Cbd link other) → ⊥
coa_declares_in Narrow sio dpc opc l fsn other link e =
    declares_narrow other (Coa (label_number dpc opc l / 0x1000000 % 256 / 16) ((fsn + 128 * 0) % 128))
    (λ n e. absurd cc) (sio % 16 == 0) link e
coa_declares_in Wide sio dpc opc l fsn other link e =
    declares_wide other (Coa (label_number dpc opc l / 0x1000000 % 256 / 16)
    (((fsn + 4096 * 0) % 256 + 256 * ((fsn + 4096 * 0) / 256)) % 4096)) (λ n e. absurd cc) (sio % 16 == 0) link e

coa_acknowledges_in : (p : Profile) (sio dpc opc l fsn other link : ℕ) → order_any (text p (Coa l fsn) sio dpc opc) ≡ Some (Cba link other) → ⊥
coa_acknowledges_in Narrow sio dpc opc l fsn other link e =
    acknowledges_narrow other (Coa (label_number dpc opc l / 0x1000000 % 256 / 16) ((fsn + 128 * 0) % 128))
    (λ n e. absurd cc) (sio % 16 == 0) link e
coa_acknowledges_in Wide sio dpc opc l fsn other link e =
    acknowledges_wide other (Coa (label_number dpc opc l / 0x1000000 % 256 / 16)
    (((fsn + 4096 * 0) % 256 + 256 * ((fsn + 4096 * 0) / 256)) % 4096)) (λ n e. absurd cc) (sio % 16 == 0) link e

module _ (s : Settings) (l : ℕ) where
  abbrev told_link : ℕ
  told_link = label_number s.dpc s.opc l / 0x1000000 % 256 / 16

  -- a declaration tells its code alone
  pub cbd_declares : (number code : ℕ) → s.sio % 16 ≡ 0 → Declares code (message_by number (text s.profile (Cbd l code) s.sio s.dpc s.opc))
  cbd_declares number code managed = record { link = told_link; is = rw (eq-eqb (s.sio % 16) 0 managed) refl }

  pub cbd_other : (number code other : ℕ) → Declares other (message_by number (text s.profile (Cbd l code) s.sio s.dpc s.opc)) → other ≡ code
  cbd_other number code other d = go (s.sio % 16 == 0) d.is
    where
      go : (b : Bool) → InBoth b (Cbd (label_number s.dpc s.opc l / 0x1000000 % 256 / 16) code) ≡ Some (Cbd d.link other) → other ≡ code
      go true e = cc
      go false e = absurd cc

  pub cbd_acknowledges : (number code other : ℕ) → Acknowledges other (message_by number (text s.profile (Cbd l code) s.sio s.dpc s.opc)) → ⊥
  cbd_acknowledges number code other d = acknowledges_both other (Cbd told_link code) (λ n e. absurd cc) (s.sio % 16 == 0) d.link d.is

  pub cba_other : (number code other : ℕ) → Acknowledges other (record { number = number; body = text s.profile (Cba l code) s.sio s.dpc s.opc; users = false }) → other ≡ code
  cba_other number code other d = go (s.sio % 16 == 0) d.is
    where
      go : (b : Bool) → InBoth b (Cba (label_number s.dpc s.opc l / 0x1000000 % 256 / 16) code) ≡ Some (Cba d.link other) → other ≡ code
      go true e = cc
      go false e = absurd cc

  pub cba_declares : (number code other : ℕ) → Declares other (record { number = number; body = text s.profile (Cba l code) s.sio s.dpc s.opc; users = false }) → ⊥
  cba_declares number code other d = declares_both other (Cba told_link code) (λ n e. absurd cc) (s.sio % 16 == 0) d.link d.is

  pub coo_declares : (number fsn other : ℕ) → Declares other (record { number = number; body = text s.profile (Coo l fsn) s.sio s.dpc s.opc; users = false }) → ⊥
  coo_declares number fsn other d = coo_declares_in s.profile s.sio s.dpc s.opc l fsn other d.link d.is

  pub coo_acknowledges : (number fsn other : ℕ) → Acknowledges other (record { number = number; body = text s.profile (Coo l fsn) s.sio s.dpc s.opc; users = false }) → ⊥
  coo_acknowledges number fsn other d = coo_acknowledges_in s.profile s.sio s.dpc s.opc l fsn other d.link d.is

  pub coa_declares : (number fsn other : ℕ) → Declares other (record { number = number; body = text s.profile (Coa l fsn) s.sio s.dpc s.opc; users = false }) → ⊥
  coa_declares number fsn other d = coa_declares_in s.profile s.sio s.dpc s.opc l fsn other d.link d.is

  pub coa_acknowledges : (number fsn other : ℕ) → Acknowledges other (record { number = number; body = text s.profile (Coa l fsn) s.sio s.dpc s.opc; users = false }) → ⊥
  coa_acknowledges number fsn other d = coa_acknowledges_in s.profile s.sio s.dpc s.opc l fsn other d.link d.is

  pub eco_declares : (number other : ℕ) → Declares other (record { number = number; body = text s.profile (Eco l) s.sio s.dpc s.opc; users = false }) → ⊥
  eco_declares number other d = declares_both other (Eco told_link) (λ n e. absurd cc) (s.sio % 16 == 0) d.link d.is

  pub eco_acknowledges : (number other : ℕ) → Acknowledges other (record { number = number; body = text s.profile (Eco l) s.sio s.dpc s.opc; users = false }) → ⊥
  eco_acknowledges number other d = acknowledges_both other (Eco told_link) (λ n e. absurd cc) (s.sio % 16 == 0) d.link d.is

-- nor does the order with which a link is left
pub leaving_declares : (s : Settings) (l : ℕ) (blind : Bool) (link : LinkState) (number other : ℕ)
    → Declares other (record { number = number; body = text s.profile (leaving_order blind l link) s.sio s.dpc s.opc; users = false })
    → ⊥
leaving_declares s l false link number other d = coo_declares s l number (last_accepted link) other d
leaving_declares s l true link number other d = eco_declares s l number other d

pub leaving_acknowledges : (s : Settings) (l : ℕ) (blind : Bool) (link : LinkState) (number other : ℕ)
    → Acknowledges other (record {
      number = number;
      body = text s.profile (leaving_order blind l link) s.sio s.dpc s.opc;
      users = false;
    }) → ⊥
leaving_acknowledges s l false link number other d = coo_acknowledges s l number (last_accepted link) other d
leaving_acknowledges s l true link number other d = eco_acknowledges s l number other d
