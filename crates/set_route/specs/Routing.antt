-- THE MODEL OF PLACES: where the streams of a set run, and what became of its changeback codes.
use Rattle.std.specs.Prelude.{◌≡◌, ◌≢◌, ℕ, suc, zero, ◌+◌, ◌-◌, ◌*◌, ◌/◌, ◌%◌, ◌==◌, ◌<◌, ◌≤◌, Bool, true, false, not, ◌&&◌, ◌||◌, Option, Some, None, is_some, List, [], ◌∷◌, length, map, slice_index_or, slice_set, replicate, All, if◌then◌else◌}
use Rattle.std.specs.List.{range_with_len}
use Rattle.set_route.specs.declared.place.Place.{Place}
use Rattle.set_route.specs.declared.place.Place.TheVariants.{On, Changing, Nowhere}
use Rattle.set_route.specs.declared.place.Code.{Code}
use Rattle.set_route.specs.declared.place.Code.TheVariants.{Free, Asked, Spent}
use Rattle.set_route.specs.declared.stream.Stream.{Stream}

-- how many links the set has; its streams: stream s stands at place s; and its changeback codes, by their numbers
pub record Routing : Type 0 where
  pub links : ℕ
  pub streams : List Stream
  pub codes : List Code

-- a signalling link code has four bits, and so has the SLS, whose values are the streams (Q.704 15.2)
abbrev pub most_links : ℕ
most_links = 16

abbrev pub stream_count : ℕ
stream_count = 16

-- A new set.

-- the streams of a set, 0 to 15: all numbers that four bits of SLS can have (Q.704 15.2)
abbrev pub stream_numbers : List ℕ
stream_numbers = range_with_len 0 stream_count

-- a stream of this home, of which no message was accepted
abbrev pub new_stream : ℕ → Stream
new_stream home = record { home = home; used = false; place = Nowhere }

-- no link was up yet; a code has 8 bits (Q.704 15.4.2)
abbrev pub new_routing : ℕ → Routing
new_routing links = record {
  links = links;
  streams = map (λ s. new_stream (s % links)) stream_numbers;
  codes = replicate 256 Free;
}

-- Where a stream runs.
abbrev pub place_of : ℕ → Routing → Place
place_of stream routing = slice_index_or (map (λ s. s.place) routing.streams) stream Nowhere

-- whether a message of the stream was ever accepted
abbrev pub has_messages : ℕ → Routing → Bool
has_messages stream routing = slice_index_or (map (λ s. s.used) routing.streams) stream false

-- THE CODES (Q.704 6.3). One is that of a home and an alternative (own).
abbrev pub code_for : ℕ → ℕ → ℕ
code_for home alternative = 16 * home + alternative

abbrev pub home_of : ℕ → ℕ
home_of code = code / 16

-- what became of the code
abbrev pub code_of : ℕ → Routing → Code
code_of code routing = slice_index_or routing.codes code Free

abbrev pub is_free : Code → Bool
is_free Free = true
is_free (Asked via declaration owed) = false
is_free (Spent owed) = false

-- it was declared, and streams wait for its acknowledgement: the link from which they come
abbrev pub via_of : Code → Option ℕ
via_of Free = None
via_of (Asked via declaration owed) = Some via
via_of (Spent owed) = None

abbrev pub is_open : Code → Bool
is_open code = is_some (via_of code)

-- how many acknowledgements are owed under it: one for each declaration
abbrev pub owed_under : Code → ℕ
owed_under Free = 0
owed_under (Asked via declaration owed) = owed
owed_under (Spent owed) = owed

-- while acknowledgements are owed it's spent, and then free
abbrev pub still_owed : ℕ → Code
still_owed zero = Free
still_owed (suc n) = Spent (suc n)

-- Offer: a message of the stream was accepted.
abbrev pub used_at : ℕ → List Stream → List Stream
used_at stream [] = []
used_at zero (s ∷ rest) = record s { used = true } ∷ rest
used_at (suc n) (s ∷ rest) = s ∷ used_at n rest

abbrev pub accepted : ℕ → Routing → Routing
accepted stream routing = record routing { streams = used_at stream routing.streams }

-- Up: a stream that runs nowhere, or that has this home and had no message yet, runs on the link.
abbrev pub place_raised : ℕ → ℕ → Bool → Place → Place
place_raised link home used (On l) = if (home == link) && not used then On link else On l
place_raised link home used (Changing to code via) = Changing to code via
place_raised link home used Nowhere = On link

abbrev pub stream_raised : ℕ → Stream → Stream
stream_raised link s = record s { place = place_raised link s.home s.used s.place }

abbrev pub raised : ℕ → Routing → Routing
raised link routing = record routing { streams = map (stream_raised link) routing.streams }

-- A link is left (Q.704 5.3): its streams stay on it until it settles. Those on their way to it run where they came
-- from, and their codes are spent.
abbrev pub place_left : ℕ → Place → Place
place_left link (On l) = On l
place_left link (Changing to code via) = if to == link then On via else Changing to code via
place_left link Nowhere = Nowhere

abbrev pub stream_left : ℕ → Stream → Stream
stream_left link s = record s { place = place_left link s.place }

abbrev pub code_left : ℕ → ℕ → Code → Code
code_left link number Free = Free
code_left link number (Asked via declaration owed) = if home_of number == link then Spent owed else Asked via declaration owed
code_left link number (Spent owed) = Spent owed

-- these have the numbers from this one on
abbrev pub codes_left : ℕ → ℕ → List Code → List Code
codes_left link number [] = []
codes_left link number (code ∷ codes) = code_left link number code ∷ codes_left link (suc number) codes

abbrev pub left : ℕ → Routing → Routing
left link routing = record routing {
  streams = map (stream_left link) routing.streams;
  codes = codes_left link 0 routing.codes;
}

-- A link settled: its streams run on the target, and those that came from it come from the target.
abbrev pub place_on : Option ℕ → Place
place_on (Some link) = On link
place_on None = Nowhere

abbrev pub via_settled : ℕ → Option ℕ → ℕ → ℕ
via_settled link (Some target) via = if via == link then target else via
via_settled link None via = via

abbrev pub place_settled : ℕ → Option ℕ → Place → Place
place_settled link target (On l) = if l == link then place_on target else On l
place_settled link target (Changing to code via) = Changing to code (via_settled link target via)
place_settled link target Nowhere = Nowhere

abbrev pub stream_settled : ℕ → Option ℕ → Stream → Stream
stream_settled link target s = record s { place = place_settled link target s.place }

abbrev pub code_settled : ℕ → Option ℕ → Code → Code
code_settled link target Free = Free
code_settled link target (Asked via declaration owed) = Asked (via_settled link target via) declaration owed
code_settled link target (Spent owed) = Spent owed

abbrev pub settled : ℕ → Option ℕ → Routing → Routing
settled link target routing = record routing {
  streams = map (stream_settled link target) routing.streams;
  codes = map (code_settled link target) routing.codes;
}

-- Restore (Q.704 6): the streams of this home that run on the alternative are to come back.
abbrev pub runs_on : ℕ → Place → Bool
runs_on link (On l) = l == link
runs_on link (Changing to code via) = false
runs_on link Nowhere = false

abbrev pub is_away : ℕ → ℕ → Stream → Bool
is_away home alternative s = (s.home == home) && runs_on alternative s.place

abbrev pub some_away : ℕ → ℕ → List Stream → Bool
some_away home alternative [] = false
some_away home alternative (s ∷ rest) = is_away home alternative s || some_away home alternative rest

-- their code is free, and there are such streams
abbrev pub can_ask : ℕ → ℕ → Routing → Bool
can_ask home alternative routing =
    is_free (code_of (code_for home alternative) routing) && some_away home alternative routing.streams

abbrev pub stream_asked : ℕ → ℕ → Stream → Stream
stream_asked home alternative s =
    if is_away home alternative s
    then record s { place = Changing home (code_for home alternative) alternative }
    else s

-- their declaration is the message of this number
abbrev pub asked : ℕ → ℕ → ℕ → Routing → Routing
asked home alternative declaration routing = record routing {
  streams = map (stream_asked home alternative) routing.streams;
  codes = slice_set routing.codes (code_for home alternative) (Asked alternative declaration 1);
}

-- Redeclare (Q.704 6.3): the code is declared once more, by the message of this number.
abbrev pub code_again : ℕ → Code → Code
code_again declaration Free = Free
code_again declaration (Asked via before owed) = Asked via declaration (owed + 1)
code_again declaration (Spent owed) = Spent owed

abbrev pub asked_again : ℕ → ℕ → Routing → Routing
asked_again code declaration routing = record routing {
  codes = slice_set routing.codes code (code_again declaration (code_of code routing));
}

-- An acknowledgement: the code's streams run on their home, and one less is owed under it. And none came: they run there
-- all the same, and it's free.
abbrev pub place_back : ℕ → Place → Place
place_back code (On l) = On l
place_back code (Changing to c via) = if c == code then On to else Changing to c via
place_back code Nowhere = Nowhere

abbrev pub stream_back : ℕ → Stream → Stream
stream_back code s = record s { place = place_back code s.place }

abbrev pub given_back : ℕ → Routing → Routing
given_back code routing = record routing {
  streams = map (stream_back code) routing.streams;
  codes = slice_set routing.codes code Free;
}

abbrev pub code_answered : Code → Code
code_answered code = still_owed (owed_under code - 1)

abbrev pub answered : ℕ → Routing → Routing
answered code routing = record routing {
  streams = map (stream_back code) routing.streams;
  codes = slice_set routing.codes code (code_answered (code_of code routing));
}

-- No acknowledgement came: so many codes from this one on are given back, or all of a home.
abbrev pub given_back_from : ℕ → ℕ → Routing → Routing
given_back_from code zero routing = routing
given_back_from code (suc n) routing = given_back_from (suc code) n (given_back code routing)

abbrev pub cleared : ℕ → Routing → Routing
cleared home routing = given_back_from (code_for home 0) 16 routing

-- What holds of every set.

-- a link of the set, or nowhere
abbrev pub IsPlaceOf : ℕ → Place → Type 0
IsPlaceOf links (On link) = link < links
IsPlaceOf links (Changing to code via) = (to < links) × (via < links)
IsPlaceOf links Nowhere = Unit {0}

-- a stream on its way back goes to the home of its code, which is open, and comes from the link of that code
abbrev pub IsCoded : Routing → Place → Type 0
IsCoded routing (On link) = Unit {0}
IsCoded routing (Changing to code via) = (home_of code ≡ to) × (via_of (code_of code routing) ≡ Some via)
IsCoded routing Nowhere = Unit {0}

pub record IsRouting (routing : Routing) : Type 0 where
  pub some_link : 1 ≤ routing.links
  pub at_most_16 : routing.links ≤ most_links
  pub homes : map (λ s. s.home) routing.streams ≡ map (λ s. s % routing.links) stream_numbers
  pub there : All (λ s. IsPlaceOf routing.links s.place) routing.streams
  pub coded : All (λ s. IsCoded routing s.place) routing.streams
  pub all_codes : length routing.codes ≡ 256
  -- a code in use is one of a link of the set
  pub known : (code : ℕ) → code_of code routing ≢ Free → home_of code < routing.links

-- LAW: a call moves just the streams that it names. Here is all that one stream sees of each call.
pub record MovesAlone (routing : Routing) (stream : ℕ) : Type 0 where
  pub raised_place : (link : ℕ) → place_of stream (raised link routing)
      ≡ place_raised link (stream % routing.links) (has_messages stream routing) (place_of stream routing)
  pub raised_messages : (link : ℕ) → has_messages stream (raised link routing) ≡ has_messages stream routing
  pub left_place : (link : ℕ) → place_of stream (left link routing) ≡ place_left link (place_of stream routing)
  pub left_messages : (link : ℕ) → has_messages stream (left link routing) ≡ has_messages stream routing
  pub settled_place : (link : ℕ) (target : Option ℕ) → place_of stream (settled link target routing)
      ≡ place_settled link target (place_of stream routing)
  pub settled_messages : (link : ℕ) (target : Option ℕ) → has_messages stream (settled link target routing)
      ≡ has_messages stream routing
  pub accepted_place : (other : ℕ) → place_of stream (accepted other routing) ≡ place_of stream routing
  pub accepted_messages : (other : ℕ) → has_messages stream (accepted other routing)
      ≡ ((stream == other) || has_messages stream routing)
  pub asked_place : (home alternative declaration : ℕ) → place_of stream (asked home alternative declaration routing)
      ≡ (if (stream % routing.links == home) && runs_on alternative (place_of stream routing)
      then Changing home (code_for home alternative) alternative else place_of stream routing)
  pub asked_messages : (home alternative declaration : ℕ) → has_messages stream (asked home alternative declaration routing)
      ≡ has_messages stream routing
  pub back_place : (code : ℕ) → place_of stream (given_back code routing) ≡ place_back code (place_of stream routing)
  pub back_messages : (code : ℕ) → has_messages stream (given_back code routing) ≡ has_messages stream routing
  pub answered_place : (code : ℕ) → place_of stream (answered code routing) ≡ place_back code (place_of stream routing)
  pub answered_messages : (code : ℕ) → has_messages stream (answered code routing) ≡ has_messages stream routing

abbrev pub StreamsMoveAlone : Type 0
StreamsMoveAlone =
    (routing : Routing) (stream : ℕ) → IsRouting routing → stream < stream_count → MovesAlone routing stream

-- LAW: what each call does to each code.
pub record CodesMoveAlone (routing : Routing) (code : ℕ) : Type 0 where
  pub left_code : (link : ℕ) → code_of code (left link routing) ≡ code_left link code (code_of code routing)
  pub settled_code : (link : ℕ) (target : Option ℕ)
      → code_of code (settled link target routing) ≡ code_settled link target (code_of code routing)
  pub asked_code : (home alternative declaration : ℕ) → home < most_links → alternative < most_links
      → code_of code (asked home alternative declaration routing)
      ≡ (if code == code_for home alternative then Asked alternative declaration 1 else code_of code routing)
  pub again_code : (other declaration : ℕ) → code_of code (asked_again other declaration routing)
      ≡ (if code == other then code_again declaration (code_of code routing) else code_of code routing)
  pub back_code : (other : ℕ) → code_of code (given_back other routing)
      ≡ (if code == other then Free else code_of code routing)
  pub answered_code : (other : ℕ) → code_of code (answered other routing)
      ≡ (if code == other then code_answered (code_of code routing) else code_of code routing)

abbrev pub EachCodeMovesAlone : Type 0
EachCodeMovesAlone = (routing : Routing) (code : ℕ) → IsRouting routing → code < 256 → CodesMoveAlone routing code

-- NO CHANGEBACK IS UNDER WAY.
abbrev pub NoneOpen : Routing → Type 0
NoneOpen routing = (code : ℕ) → code_of code routing ≡ Free
