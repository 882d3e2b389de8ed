-- AN ORDER'S TEXT is read as that order: `coo_read`, `coa_read` and `eco_read`, by either profile, where the set's
-- service octet is the management's and its point codes have 14 bits (`AreCodes`), the link is below 16, and the FSN is
-- one of the profile's. And nothing else is read as an order of a changeover: no declaration or acknowledgement of a
-- changeback (`cbd_plain`, `cba_plain`), no message of a user (`users_no_order`). It's arithmetic on octets (`slc_is`,
-- `wide_is`), case by case on the profile, without induction; l3_orders's Texts.antt says that `order_any` reads what
-- one profile does. Used by Keeping.antt, Obeying.antt, Hearing.antt and Turning.antt.
use Rattle.std.proofs.Common.{refl, arith, ◌≡◌, ◌∙◌, sym, subst, ℕ, ◌<◌, ◌==◌, ◌+◌, ◌*◌, ◌/◌, ◌%◌, Bool, true, false, List, [], ◌∷◌, Option, Some, None, cond}
use Rattle.std.proofs.lemmas.Bool.{eq-eqb}
use Rattle.std.proofs.lemmas.Option.{same_Some}
use Rattle.l3_orders.specs.declared.order.Order.{Order}
use Rattle.l3_orders.specs.declared.order.Order.TheVariants.{Coo, Coa, Cbd, Cba, Eco}
use Rattle.l3_orders.specs.Grammar.{text, order_of, order_any, first_of, label_number}
use Rattle.l3_orders.proofs.Texts.{any_of}
use Rattle.l2_units.specs.declared.profile.Profile.{Profile}
use Rattle.l2_units.specs.declared.profile.Profile.TheVariants.{Narrow, Wide}
use Rattle.l2_window.specs.Window.{fsn_count}
use Rattle.set_model.specs.Rows.{service_indicator}
use Rattle.set_model.specs.State.{Settings}
use Rattle.pair_changeover.proofs.Views.{IsChangeover, IsNoOrder}

-- what the envelope of a set's orders fits
pub record AreCodes (settings : Settings) : Type 0 where
  pub management : settings.sio % 16 ≡ 0
  pub dpc : settings.dpc < 16384
  pub opc : settings.opc < 16384

slc_is : (dpc opc link : ℕ) → dpc < 16384 → opc < 16384 → link < 16 → label_number dpc opc link / 0x1000000 % 256 / 16 ≡ link
slc_is dpc opc link a b c = omega (arith, a, b, c)

field_is : (fsn : ℕ) → fsn < 128 → (fsn + 128 * 0) % 128 ≡ fsn
field_is fsn few = omega (arith, few)

wide_is : (fsn : ℕ) → fsn < 4096 → ((fsn + 4096 * 0) % 256 + 256 * ((fsn + 4096 * 0) / 256)) % 4096 ≡ fsn
wide_is fsn few = omega (arith, few)

coo_in : (p : Profile) (sio dpc opc link fsn : ℕ) → sio % 16 ≡ 0 → dpc < 16384 → opc < 16384 → link < 16
    → fsn < fsn_count p → order_of p (text p (Coo link fsn) sio dpc opc) ≡ Some (Coo link fsn)
coo_in Narrow sio dpc opc link fsn m d o few small = rw (eq-eqb (sio % 16) 0 m, slc_is dpc opc link d o few, field_is fsn small) refl
coo_in Wide sio dpc opc link fsn m d o few small = rw (eq-eqb (sio % 16) 0 m, slc_is dpc opc link d o few, wide_is fsn small) refl

pub coo_read : (settings : Settings) (link fsn : ℕ) → AreCodes settings → link < 16 → fsn < fsn_count settings.profile
    → order_any (text settings.profile (Coo link fsn) settings.sio settings.dpc settings.opc) ≡ Some (Coo link fsn)
coo_read settings link fsn codes few small =
    any_of settings.profile (text settings.profile (Coo link fsn) settings.sio settings.dpc settings.opc) (Coo link fsn)
    (coo_in settings.profile settings.sio settings.dpc settings.opc link fsn codes.management codes.dpc codes.opc few
    small)

coa_in : (p : Profile) (sio dpc opc link fsn : ℕ) → sio % 16 ≡ 0 → dpc < 16384 → opc < 16384 → link < 16
    → fsn < fsn_count p → order_of p (text p (Coa link fsn) sio dpc opc) ≡ Some (Coa link fsn)
coa_in Narrow sio dpc opc link fsn m d o few small = rw (eq-eqb (sio % 16) 0 m, slc_is dpc opc link d o few, field_is fsn small) refl
coa_in Wide sio dpc opc link fsn m d o few small = rw (eq-eqb (sio % 16) 0 m, slc_is dpc opc link d o few, wide_is fsn small) refl

pub coa_read : (settings : Settings) (link fsn : ℕ) → AreCodes settings → link < 16 → fsn < fsn_count settings.profile
    → order_any (text settings.profile (Coa link fsn) settings.sio settings.dpc settings.opc) ≡ Some (Coa link fsn)
coa_read settings link fsn codes few small =
    any_of settings.profile (text settings.profile (Coa link fsn) settings.sio settings.dpc settings.opc) (Coa link fsn)
    (coa_in settings.profile settings.sio settings.dpc settings.opc link fsn codes.management codes.dpc codes.opc few
    small)

eco_in : (p : Profile) (sio dpc opc link : ℕ) → sio % 16 ≡ 0 → dpc < 16384 → opc < 16384 → link < 16
    → order_of p (text p (Eco link) sio dpc opc) ≡ Some (Eco link)
eco_in p sio dpc opc link m d o few = rw (eq-eqb (sio % 16) 0 m, slc_is dpc opc link d o few) refl

pub eco_read : (settings : Settings) (link : ℕ) → AreCodes settings → link < 16
    → order_any (text settings.profile (Eco link) settings.sio settings.dpc settings.opc) ≡ Some (Eco link)
eco_read settings link codes few =
    any_of settings.profile (text settings.profile (Eco link) settings.sio settings.dpc settings.opc) (Eco link)
    (eco_in settings.profile settings.sio settings.dpc settings.opc link codes.management codes.dpc codes.opc few)

-- what the orders of a changeback are read as is no order of a changeover
back_no_order : (told : Order) → (IsChangeover told → ⊥) → (b : Bool) (order : Order)
    → ◌≡◌ {A = Option Order} (cond b (Some told) None) (Some order) → IsChangeover order → ⊥
back_no_order told not true order e over = not (subst IsChangeover (sym (same_Some told order e)) over)
back_no_order told not false order e over = absurd cc

back_any : (told : Order) → (IsChangeover told → ⊥) → (b : Bool) (order : Order)
    → ◌≡◌ {A = Option Order} (first_of (cond b (Some told) None) (cond b (Some told) None)) (Some order)
    → IsChangeover order → ⊥
back_any told not true order e over = back_no_order told not true order e over
back_any told not false order e over = absurd cc

pub cbd_plain : (settings : Settings) (link code : ℕ) → IsNoOrder (text settings.profile (Cbd link code) settings.sio settings.dpc settings.opc)
cbd_plain settings link code order e over =
    back_any (Cbd (label_number settings.dpc settings.opc link / 0x1000000 % 256 / 16) code) (λ c. c)
    (settings.sio % 16 == 0) order e over

pub cba_plain : (settings : Settings) (link code : ℕ) → IsNoOrder (text settings.profile (Cba link code) settings.sio settings.dpc settings.opc)
cba_plain settings link code order e over =
    back_any (Cba (label_number settings.dpc settings.opc link / 0x1000000 % 256 / 16) code) (λ c. c)
    (settings.sio % 16 == 0) order e over

-- nor is a message of the users an order
pub plain_body : (body : List ℕ) → (service_indicator body == 0) ≡ false → order_any body ≡ None
plain_body [] e = refl
plain_body (sio ∷ []) e = refl
plain_body (sio ∷ a ∷ []) e = refl
plain_body (sio ∷ a ∷ b ∷ []) e = refl
plain_body (sio ∷ a ∷ b ∷ c ∷ []) e = refl
plain_body (sio ∷ a ∷ b ∷ c ∷ slc ∷ []) e = refl
plain_body (sio ∷ a ∷ b ∷ c ∷ slc ∷ code ∷ content) e = rw e refl

pub plain_in : (p : Profile) (body : List ℕ) → (service_indicator body == 0) ≡ false → order_of p body ≡ None
plain_in p [] e = refl
plain_in p (sio ∷ []) e = refl
plain_in p (sio ∷ a ∷ []) e = refl
plain_in p (sio ∷ a ∷ b ∷ []) e = refl
plain_in p (sio ∷ a ∷ b ∷ c ∷ []) e = refl
plain_in p (sio ∷ a ∷ b ∷ c ∷ slc ∷ []) e = refl
plain_in p (sio ∷ a ∷ b ∷ c ∷ slc ∷ code ∷ content) e = rw e refl

pub users_no_order : (body : List ℕ) → (service_indicator body == 0) ≡ false → IsNoOrder body
users_no_order body e order is over = let no : None ≡ Some order = sym (plain_body body e) ∙ is in absurd cc
