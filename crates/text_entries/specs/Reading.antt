-- Which entry a line can be at most: each word is taken for what stands at its place. Whether it's that entry is told
-- by the entry's text.
use Rattle.std.specs.Prelude.{ℕ, Bool, ◌==◌, ◌-◌, ◌^◌, nat_le, List, [], ◌∷◌, length, take, Option, Some, None, if◌then◌else◌, codes}
use Rattle.std.specs.Option.{option_map, option_and_then}
use Rattle.std.specs.Str.{bytes_eq}
use Rattle.l2_units.specs.Grammar.{unit_of}
use Rattle.l2_units.specs.declared.profile.Profile.{Profile}
use Rattle.l2_units.specs.declared.cause.ControlFault.{ControlFault}
use Rattle.l2_units.specs.declared.cause.ControlFault.TheVariants.{Bsn, Fib}
use Rattle.set_events.specs.declared.event.Actor.{Actor}
use Rattle.set_events.specs.declared.event.Actor.TheVariants.{User, Terminal}
use Rattle.set_events.specs.declared.event.Event.{Event}
use Rattle.set_events.specs.declared.event.Event.TheVariants.{Offer, Take, Find, Next, Heard as Hear, Up}
use Rattle.set_events.specs.declared.answer.Fate.{Fate}
use Rattle.set_events.specs.declared.answer.Fate.TheVariants.{Waiting, Unacked, Acked, Held, Parked, Back, Discarded}
use Rattle.set_events.specs.declared.answer.Took.{Took}
use Rattle.set_events.specs.declared.answer.Took.TheVariants.{Nothing as TookNothing, Message, Order, Ignored}
use Rattle.set_events.specs.declared.answer.DiscardCause.{DiscardCause}
use Rattle.set_events.specs.declared.answer.DiscardCause.TheVariants.{Emergency, Unreasonable, NoAnswer as NobodyAnswered}
use Rattle.set_events.specs.declared.answer.Refusal.{Refusal as SetRefusal}
use Rattle.set_events.specs.declared.answer.Refusal.TheVariants.{TooShort, TooLong, Reserved, StreamFull, NotUp, NotDown, Unsettled, UnknownNumber, Nothing, NoSuchLink, Finished}
use Rattle.set_events.specs.declared.answer.Answer.{Answer}
use Rattle.set_events.specs.declared.answer.Answer.TheVariants.{Accepted, Taken, Found, Sent, Heard, Done, Refused}
use Rattle.set_events.specs.declared.history.Entry.{Entry}
use Rattle.text_base.specs.Figures.{number_of, number_below, octets_of}
use Rattle.text_forms.specs.Moves.{link_event}
use Rattle.text_forms.specs.Places.{unit_of as unit_in}
use Rattle.text_entries.specs.Entries.{entry_text}

-- what stands in a place, where something was found
abbrev pub if_found : {A : Type 0} → Bool → A → Option A
if_found found a = if found then Some a else None

-- what stands before the first octet of a kind, and what stands behind it
abbrev pub until : (ℕ → Bool) → List ℕ → List ℕ
until p [] = []
until p (c ∷ cs) = if p c then [] else c ∷ until p cs

abbrev pub behind : (ℕ → Bool) → List ℕ → List ℕ
behind p [] = []
behind p (c ∷ cs) = if p c then cs else behind p cs

-- a word ends at a space or at the LF
abbrev pub is_gap : ℕ → Bool
is_gap c = nat_le c 32

abbrev pub word : List ℕ → List ℕ
word line = until is_gap line

abbrev pub others : List ℕ → List ℕ
others line = behind is_gap line

abbrev pub link_in : List ℕ → Option ℕ
link_in w = number_below (2 ^ 8) w

abbrev pub actor_in : List ℕ → List ℕ → Option Actor
actor_in kind number =
    if bytes_eq kind (codes "user") then option_map User (number_below (2 ^ 16) number)
    else (if bytes_eq kind (codes "terminal") then option_map Terminal (link_in number) else None)

-- where no body stands, the arrow follows
abbrev pub body_in : List ℕ → Option (List ℕ)
body_in w = if bytes_eq w (codes "->") then Some [] else octets_of w

abbrev pub hear_in : Profile → List ℕ → List ℕ → Option Event
hear_in profile link unit = option_and_then (λ l. option_map (Hear l) (unit_in profile unit)) (link_in link)

abbrev pub link_event_in : List ℕ → ℕ → Option Event
link_event_in name link =
    if bytes_eq name (codes "next") then Some (Next link)
    else (if bytes_eq name (codes "up") then Some (Up link)
    else link_event name link)

abbrev pub event_in : Profile → List ℕ → List ℕ → Option Event
event_in profile name words =
    if bytes_eq name (codes "offer") then option_map Offer (body_in (word words))
    else (if bytes_eq name (codes "take") then Some Take
    else (if bytes_eq name (codes "find") then option_map Find (number_of (word words))
    else (if bytes_eq name (codes "hear") then hear_in profile (word words) (word (others words))
    else option_and_then (link_event_in name) (link_in (word words)))))

abbrev pub cause_in : ℕ → Option DiscardCause
cause_in n =
    if n == 1 then Some Emergency else
    if n == 2 then Some Unreasonable else
    if n == 3 then Some NobodyAnswered else None

abbrev pub linked_fate_in : List ℕ → ℕ → Option Fate
linked_fate_in name n =
    if bytes_eq name (codes "waiting") then Some (Waiting n)
    else (if bytes_eq name (codes "unacked") then Some (Unacked n)
    else (if bytes_eq name (codes "acked") then Some (Acked n)
    else (if bytes_eq name (codes "held") then Some (Held n)
    else (if bytes_eq name (codes "back") then Some (Back n)
    else (if bytes_eq name (codes "discarded") then option_map Discarded (cause_in n)
    else None)))))

abbrev pub fate_in : List ℕ → List ℕ → Option Fate
fate_in name number =
    if bytes_eq name (codes "parked") then Some Parked
    else option_and_then (linked_fate_in name) (link_in number)

abbrev pub refusal_in : ℕ → Option SetRefusal
refusal_in n =
    if n == 1 then Some TooShort else
    if n == 2 then Some TooLong else
    if n == 3 then Some Reserved else
    if n == 4 then Some StreamFull else
    if n == 5 then Some NotUp else
    if n == 6 then Some NotDown else
    if n == 7 then Some Unsettled else
    if n == 8 then Some UnknownNumber else
    if n == 9 then Some Nothing else
    if n == 10 then Some NoSuchLink else
    if n == 11 then Some Finished else None

abbrev pub taken_in : List ℕ → Option Answer
taken_in w =
    option_and_then
    (λ octets. if nat_le (length octets) 273 then Some (Taken (record { items = octets })) else None)
    (octets_of w)

-- the last two octets are the check octets
abbrev pub sent_in : Profile → List ℕ → Option Answer
sent_in profile w =
    option_and_then (λ octets. option_map Sent (unit_of profile (take (length octets - 2) octets)))
    (octets_of w)

abbrev pub took_in : List ℕ → Option Took
took_in w =
    if bytes_eq w (codes "nothing") then Some TookNothing
    else (if bytes_eq w (codes "message") then Some Message
    else (if bytes_eq w (codes "order") then Some Order
    else (if bytes_eq w (codes "ignored") then Some Ignored else None)))

abbrev pub yes_in : List ℕ → Bool
yes_in w = bytes_eq w (codes "1")

abbrev pub fault_in : List ℕ → Option ControlFault
fault_in w =
    if bytes_eq w (codes "2") then Some Bsn
    else (if bytes_eq w (codes "3") then Some Fib else None)

-- what stands behind the sign in a word NAME=VALUE
abbrev pub is_sign : ℕ → Bool
is_sign c = c == 61

abbrev pub value : List ℕ → List ℕ
value line = behind is_sign (word line)

abbrev pub acked_in : List ℕ → Option ℕ
acked_in w = number_below (2 ^ 16) w

abbrev pub heard_in : List ℕ → Option Answer
heard_in line =
    option_and_then (λ acked. option_map (λ took. Heard (record {
      acked = acked;
      took = took;
      asked = yes_in (value (others (others line)));
      resend = yes_in (value (others (others (others line))));
      fault = fault_in (value (others (others (others (others line)))));
    })) (took_in (value (others line)))) (acked_in (value line))

abbrev pub answer_in : Profile → List ℕ → List ℕ → Option Answer
answer_in profile name words =
    if bytes_eq name (codes "accepted") then option_map Accepted (number_of (word words))
    else (if bytes_eq name (codes "taken") then taken_in (word words)
    else (if bytes_eq name (codes "found")
    then option_map Found (fate_in (word words) (word (others words)))
    else (if bytes_eq name (codes "sent") then sent_in profile (word words)
    else (if bytes_eq name (codes "heard") then heard_in words
    else (if bytes_eq name (codes "done") then Some Done
    else (if bytes_eq name (codes "refused")
    then option_map Refused (option_and_then refusal_in (number_of (word words)))
    else None))))))

-- the answer stands behind the arrow and a space
abbrev pub is_arrow : ℕ → Bool
is_arrow c = c == 62

abbrev pub told : List ℕ → List ℕ
told line = others (behind is_arrow line)

abbrev pub asked_in : Profile → List ℕ → Option Event
asked_in profile words = event_in profile (word words) (others words)

abbrev pub told_in : Profile → List ℕ → Option Answer
told_in profile words = answer_in profile (word words) (others words)

abbrev pub entry_in : Profile → List ℕ → Option Entry
entry_in profile line =
    option_and_then (λ who. option_and_then (λ event. option_map (λ answer.
    record { who = who; event = event; answer = answer })
    (told_in profile (told line))) (asked_in profile (others (others line))))
    (actor_in (word line) (word (others line)))

-- THE ENTRY of a set of this profile whose text a line is, with its LF; an entry has one text
abbrev pub entry_of : Profile → List ℕ → Option Entry
entry_of profile line =
    option_and_then (λ entry. if bytes_eq (entry_text profile entry) line then Some entry else None)
    (entry_in profile line)
