-- What each call does to one stream, and to one code.
use Rattle.std.proofs.Common.{refl, arith, ◌≡◌, ◌∙◌, ap, sym, ◌<◌, ℕ, zero, suc, ◌%◌, ◌==◌, Bool, true, false, cond, ◌&&◌, ◌||◌, List, [], ◌∷◌, map, length, get_or}
use Rattle.std.proofs.lemmas.Bool.Decides.{nat_tests}
use Rattle.std.proofs.lemmas.List.{length-map, get_or-map}
use Rattle.std.proofs.lemmas.List.FromFn.{get_or-map-range_with_len}
use Rattle.set_route.specs.declared.place.Place.{Place}
use Rattle.set_route.specs.declared.place.Place.TheVariants.{Changing, Nowhere}
use Rattle.set_route.specs.declared.stream.Stream.{Stream}
use Rattle.set_route.specs.declared.place.Code.TheVariants.{Asked}
use Rattle.set_route.specs.Routing.{Routing, IsRouting, MovesAlone, CodesMoveAlone, place_of, has_messages, new_stream, used_at, place_raised, stream_raised, stream_settled, place_settled, place_left, stream_left, code_for, runs_on, is_away, stream_asked, place_back, stream_back}
use Rattle.set_route.proofs.Codes.{codes_at, set_at, freed_at}
use Rattle.set_route.proofs.Places.{sixteen, settled_at, again_at, answered_at}

-- the stream at a place of the list
abbrev the_stream : List Stream → ℕ → Stream
the_stream streams n = get_or streams n (new_stream 0)

place_at : (streams : List Stream) (n : ℕ) → n < length streams → get_or (map (λ s. s.place) streams) n Nowhere ≡ (the_stream streams n).place
place_at streams n below = get_or-map (λ (s : Stream). s.place) streams n (new_stream 0) Nowhere below

used_in : (streams : List Stream) (n : ℕ) → n < length streams → get_or (map (λ s. s.used) streams) n false ≡ (the_stream streams n).used
used_in streams n below = get_or-map (λ (s : Stream). s.used) streams n (new_stream 0) false below

home_at : (r : Routing) (n : ℕ) → IsRouting r → n < 16 → n % r.links ≡ (the_stream r.streams n).home
home_at r n sound below =
    sym (get_or-map-range_with_len (λ (s : ℕ). s % r.links) 0 16 n n 0 below (omega arith))
    ∙ ap (λ ns. get_or ns n 0) (sym sound.homes)
    ∙ get_or-map (λ (s : Stream). s.home) r.streams n (new_stream 0) 0 (omega (arith, below, sixteen r sound))

-- a call that changes each stream by f
changed : (f : Stream → Stream) (streams : List Stream) (n : ℕ) → n < length streams → the_stream (map f streams) n ≡ f (the_stream streams n)
changed f streams n below = get_or-map f streams n (new_stream 0) (new_stream 0) below

place_changed : (f : Stream → Stream) (streams : List Stream) (n : ℕ) → n < length streams → get_or (map (λ s. s.place) (map f streams)) n Nowhere ≡ (f (the_stream streams n)).place
place_changed f streams n below =
    place_at (map f streams) n (omega (arith, below, length-map streams f)) ∙ ap (λ (s : Stream). s.place) (changed f streams n below)

used_changed : (f : Stream → Stream) (streams : List Stream) (n : ℕ) → n < length streams → get_or (map (λ s. s.used) (map f streams)) n false ≡ (f (the_stream streams n)).used
used_changed f streams n below =
    used_in (map f streams) n (omega (arith, below, length-map streams f)) ∙ ap (λ (s : Stream). s.used) (changed f streams n below)

-- an accepted message
place_kept : (streams : List Stream) (other : ℕ) → map (λ s. s.place) (used_at other streams) ≡ map (λ s. s.place) streams
place_kept [] other = refl
place_kept (s ∷ rest) zero = refl
place_kept (s ∷ rest) (suc n) = ap (λ ps. s.place ∷ ps) (place_kept rest n)

first_is_not : (n : ℕ) (used : Bool) → used ≡ ((suc n == 0) || used)
first_is_not n used = grind (arith, nat_tests)

not_first : (m : ℕ) (used : Bool) → used ≡ ((0 == suc m) || used)
not_first m used = grind (arith, nat_tests)

one_lower : (m n : ℕ) (used : Bool) → ((n == m) || used) ≡ ((suc n == suc m) || used)
one_lower m n used = grind (arith, nat_tests)

used_then : (streams : List Stream) (other n : ℕ) → n < length streams → get_or (map (λ s. s.used) (used_at other streams)) n false ≡ ((n == other) || get_or (map (λ s. s.used) streams) n false)
used_then [] other n below = absurd (omega (arith, below))
used_then (s ∷ rest) zero zero below = refl
used_then (s ∷ rest) zero (suc n) below = first_is_not n (get_or (map (λ (s : Stream). s.used) rest) n false)
used_then (s ∷ rest) (suc m) zero below = not_first m s.used
used_then (s ∷ rest) (suc m) (suc n) below = used_then rest m n (omega (arith, below)) ∙ one_lower m n (get_or (map (λ (s : Stream). s.used) rest) n false)

-- the way back is asked for
asked_at : (b : Bool) (s : Stream) (to : Place) → (cond b (record s { place = to }) s).place ≡ cond b to s.place
asked_at true s to = refl
asked_at false s to = refl

asked_used : (b : Bool) (s : Stream) (to : Place) → (cond b (record s { place = to }) s).used ≡ s.used
asked_used true s to = refl
asked_used false s to = refl

asked_then : (home alternative of : ℕ) (s : Stream) (place : Place) → of ≡ s.home → place ≡ s.place
    → (stream_asked home alternative s).place
    ≡ cond ((of == home) && runs_on alternative place) (Changing home (code_for home alternative) alternative) place
asked_then home alternative of s place same_home same_place =
    let to : Place = Changing home (code_for home alternative) alternative in
    asked_at (is_away home alternative s) s to
    ∙ ap (λ (h : ℕ). cond ((h == home) && runs_on alternative s.place) to s.place) (sym same_home)
    ∙ ap (λ (p : Place). cond ((of == home) && runs_on alternative p) to p) (sym same_place)

pub alone : (r : Routing) (n : ℕ) → IsRouting r → n < 16 → MovesAlone r n
alone r n sound below =
    let inside : n < length r.streams = omega (arith, below, sixteen r sound) in
    let place = place_at r.streams n inside in
    let used = used_in r.streams n inside in record {
      raised_place = λ link.
          place_changed (stream_raised link) r.streams n inside
          ∙ ap (λ (h : ℕ). place_raised link h (the_stream r.streams n).used (the_stream r.streams n).place) (sym (home_at r n sound below))
          ∙ ap (λ (u : Bool). place_raised link (n % r.links) u (the_stream r.streams n).place) (sym used)
          ∙ ap (λ (p : Place). place_raised link (n % r.links) (has_messages n r) p) (sym place);
      raised_messages = λ link. used_changed (stream_raised link) r.streams n inside ∙ sym used;
      left_place = λ link. place_changed (stream_left link) r.streams n inside ∙ ap (place_left link) (sym place);
      left_messages = λ link. used_changed (stream_left link) r.streams n inside ∙ sym used;
      settled_place = λ link target. place_changed (stream_settled link target) r.streams n inside ∙ ap (place_settled link target) (sym place);
      settled_messages = λ link target. used_changed (stream_settled link target) r.streams n inside ∙ sym used;
      accepted_place = λ other. ap (λ ps. get_or ps n Nowhere) (place_kept r.streams other);
      accepted_messages = λ other. used_then r.streams other n inside;
      asked_place = λ home alternative declaration.
          place_changed (stream_asked home alternative) r.streams n inside
          ∙ asked_then home alternative (n % r.links) (the_stream r.streams n) (place_of n r) (home_at r n sound below) place;
      asked_messages = λ home alternative declaration.
          used_changed (stream_asked home alternative) r.streams n inside
          ∙ asked_used (is_away home alternative (the_stream r.streams n)) (the_stream r.streams n) (Changing home (code_for home alternative) alternative)
          ∙ sym used;
      back_place = λ code. place_changed (stream_back code) r.streams n inside ∙ ap (place_back code) (sym place);
      back_messages = λ code. used_changed (stream_back code) r.streams n inside ∙ sym used;
      answered_place = λ code. place_changed (stream_back code) r.streams n inside ∙ ap (place_back code) (sym place);
      answered_messages = λ code. used_changed (stream_back code) r.streams n inside ∙ sym used;
    }

pub codes_alone : (r : Routing) (code : ℕ) → IsRouting r → code < 256 → CodesMoveAlone r code
codes_alone r code sound below = record {
  left_code = λ link. codes_at link 0 code code r.codes (omega arith);
  settled_code = λ link target. settled_at link target r.codes code;
  asked_code = λ home alternative declaration few_homes few. set_at r.codes code (code_for home alternative) (Asked alternative declaration 1) (omega (arith, few_homes, few, sound.all_codes));
  again_code = λ other declaration. again_at r.codes code other declaration;
  back_code = λ other. freed_at r.codes code other;
  answered_code = λ other. answered_at r.codes code other;
}
