-- The grammar of changeover and changeback orders (Q.704 15.2 to 15.6): which bodies stand for which order.
use Rattle.std.specs.Prelude.{◌≡◌, ◌↔◌, ℕ, Bool, ◌||◌, ◌+◌, ◌*◌, ◌/◌, ◌%◌, ◌^◌, ◌==◌, ◌<◌, Option, Some, None, List, [], ◌∷◌, ◌++◌, All, if◌then◌else◌}
use Rattle.l2_units.specs.declared.profile.Profile.{Profile}
use Rattle.l2_units.specs.declared.profile.Profile.TheVariants.{Narrow, Wide}
use Rattle.l2_units.specs.Profile.{fsn_count}
use Rattle.l2_units.specs.Grammar.{four_octets}
use Rattle.l3_orders.specs.declared.order.Order.{Order}
use Rattle.l3_orders.specs.declared.order.Order.TheVariants.{Coo, Coa, Cbd, Cba, Eco, Eca}

-- The label (Q.704 15.2).

-- DPC in 14 bits, OPC in 14 bits, SLC in 4 bits, least significant first
abbrev pub label_number : ℕ → ℕ → ℕ → ℕ
label_number dpc opc slc = dpc + 0x4000 * opc + 0x10000000 * slc

abbrev pub label : ℕ → ℕ → ℕ → List ℕ
label dpc opc slc = four_octets (label_number dpc opc slc)

-- The heading code (Q.704 15.3): the group H0 in the low four bits, H1 in the high four.

abbrev pub heading : ℕ → ℕ → ℕ
heading h0 h1 = h0 + 16 * h1

-- group 1 is changeover and changeback, group 2 emergency changeover (Q.704 15.4 to 15.6)
abbrev pub heading_of : Order → ℕ
heading_of (Coo link number) = heading 1 1
heading_of (Coa link number) = heading 1 2
heading_of (Cbd link code) = heading 1 5
heading_of (Cba link code) = heading 1 6
heading_of (Eco link) = heading 2 1
heading_of (Eca link) = heading 2 2

-- The order.

-- the link that the order speaks of, which is the SLC of its label
abbrev pub link_of : Order → ℕ
link_of (Coo link number) = link
link_of (Coa link number) = link
link_of (Cbd link code) = link
link_of (Cba link code) = link
link_of (Eco link) = link
link_of (Eca link) = link

-- NARROW: an FSN in 7 bits with a spare bit above it (Q.704 15.4). WIDE (own): in 12 bits with four spare bits above
-- it, in two octets, least significant first.
abbrev pub number_with : Profile → ℕ → ℕ → List ℕ
number_with Narrow spare number = (number + 128 * spare) ∷ []
number_with Wide spare number = (number + 4096 * spare) % 256 ∷ (number + 4096 * spare) / 256 ∷ []

-- the spare bits have so many values
abbrev pub spares : Profile → ℕ
spares Narrow = 2
spares Wide = 16

-- the octets after the heading code, with these spare bits above an FSN (Q.704 15.4 to 15.6)
abbrev pub content_with : Profile → ℕ → Order → List ℕ
content_with profile spare (Coo link number) = number_with profile spare number
content_with profile spare (Coa link number) = number_with profile spare number
content_with profile spare (Cbd link code) = code ∷ []
content_with profile spare (Cba link code) = code ∷ []
content_with profile spare (Eco link) = []
content_with profile spare (Eca link) = []

-- every field fits its bits
abbrev pub IsOrder : Profile → Order → Type 0
IsOrder profile (Coo link number) = (link < 16) × (number < fsn_count profile)
IsOrder profile (Coa link number) = (link < 16) × (number < fsn_count profile)
IsOrder profile (Cbd link code) = (link < 16) × (code < 256)
IsOrder profile (Cba link code) = (link < 16) × (code < 256)
IsOrder profile (Eco link) = link < 16
IsOrder profile (Eca link) = link < 16

-- what stands round an order: an SIO with service indicator 0, and two point codes
pub record IsEnvelope (sio dpc opc : ℕ) : Type 0 where
  pub octet : sio < 256
  pub management : sio % 16 ≡ 0
  pub to : dpc < 2 ^ 14
  pub from : opc < 2 ^ 14

-- the body of an order with these spare bits
abbrev pub text_with : Profile → ℕ → Order → ℕ → ℕ → ℕ → List ℕ
text_with profile spare order sio dpc opc =
    sio ∷ label dpc opc (link_of order) ++ heading_of order ∷ content_with profile spare order

-- an order as it is sent: spare bits 0
abbrev pub text : Profile → Order → ℕ → ℕ → ℕ → List ℕ
text profile order sio dpc opc = text_with profile 0 order sio dpc opc

-- THE GRAMMAR: a body stands for an order if it is its text with some envelope and some spare bits
pub record StandsFor (profile : Profile) (octets : List ℕ) (order : Order) : Type 0 where
  pub sio : ℕ
  pub dpc : ℕ
  pub opc : ℕ
  pub spare : ℕ
  pub fits : IsOrder profile order
  pub envelope : IsEnvelope sio dpc opc
  pub in_range : spare < spares profile
  pub is : octets ≡ text_with profile spare order sio dpc opc

-- The grammar read from the left: which order a body stands for, if any.

-- the order about this link with this heading code and without an octet after it
abbrev pub bare_order : ℕ → ℕ → Option Order
bare_order link code =
    if code == heading 2 1 then Some (Eco link)
    else (if code == heading 2 2 then Some (Eca link) else None)

-- and with this FSN or code after it
abbrev pub numbered_order : ℕ → ℕ → ℕ → Option Order
numbered_order link code number =
    if code == heading 1 1 then Some (Coo link number)
    else (if code == heading 1 2 then Some (Coa link number) else None)

abbrev pub coded_order : ℕ → ℕ → ℕ → Option Order
coded_order link code field =
    if code == heading 1 5 then Some (Cbd link field)
    else (if code == heading 1 6 then Some (Cba link field) else None)

abbrev pub is_numbered : ℕ → Bool
is_numbered code = (code == heading 1 1) || (code == heading 1 2)

abbrev pub order_with : Profile → ℕ → ℕ → List ℕ → Option Order
order_with profile link code [] = bare_order link code
order_with Narrow link code (field ∷ []) =
    if is_numbered code then numbered_order link code (field % 128) else coded_order link code field
order_with Wide link code (field ∷ []) = coded_order link code field
order_with Wide link code (low ∷ high ∷ []) = numbered_order link code ((low + 256 * high) % 4096)
order_with Narrow link code (low ∷ high ∷ []) = None
order_with profile link code (low ∷ high ∷ more ∷ rest) = None

abbrev pub order_of : Profile → List ℕ → Option Order
order_of profile (sio ∷ a ∷ b ∷ c ∷ slc ∷ code ∷ content) =
    if sio % 16 == 0 then order_with profile (slc / 16) code content else None
order_of profile (sio ∷ a ∷ b ∷ c ∷ slc ∷ []) = None
order_of profile (sio ∷ a ∷ b ∷ c ∷ []) = None
order_of profile (sio ∷ a ∷ b ∷ []) = None
order_of profile (sio ∷ a ∷ []) = None
order_of profile (sio ∷ []) = None
order_of profile [] = None

-- THE ORDER THAT A BODY IS, whichever the profile: a COO has 7 octets or 8, never both, and the others are alike
abbrev pub first_of : Option Order → Option Order → Option Order
first_of (Some order) other = Some order
first_of None other = other

abbrev pub order_any : List ℕ → Option Order
order_any octets = first_of (order_of Narrow octets) (order_of Wide octets)

-- LAW: read from the left or as a relation, the grammar says the same of whole octets
abbrev pub IsOneGrammar : Type 0
IsOneGrammar =
    (profile : Profile) (octets : List ℕ) (order : Order) → All (λ octet. octet < 256) octets
    → (order_of profile octets ≡ Some order) ↔ StandsFor profile octets order

-- the text of an order stands for it, and for no other
pub record IsTheTextOf (profile : Profile) (order : Order) (sio dpc opc : ℕ) : Type 0 where
  pub stands : StandsFor profile (text profile order sio dpc opc) order
  pub alone : (other : Order) → StandsFor profile (text profile order sio dpc opc) other → other ≡ order
  pub again : order_of profile (text profile order sio dpc opc) ≡ Some order
