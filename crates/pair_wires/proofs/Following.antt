-- A LINK'S LINE GOES ON FOLLOWING what is under way on it: where its end's set goes on (`goes_near`, `goes_far`), where it
-- falls (`ends`), begins to align (`begins_to_align`) or comes up (`first_near` .. `second_far`), where a unit is heard
-- (`other_passes`, `given_passes`, `given_heard`) and where one is sent (`status_joins`, `idle_joins`, `given_joins`).
use Rattle.std.proofs.Common.{refl, ap, sym, subst, ◌≡◌, ◌∙◌, inl, inr, ℕ, Bool, true, false, not, ◌&&◌, ◌||◌, List, [], ◌∷◌, ◌++◌, append-nil, append_assoc, if◌then◌else◌}
use Rattle.l2_units.specs.declared.unit.Unit.{Unit as SignalUnit}
use Rattle.set_model.specs.State.{State, is_settled, is_up}
use Rattle.set_octets.specs.Lives.{GoesOn}
use Rattle.set_octets.specs.Starting.{HearsNoneYet}
use Rattle.term_asks.specs.Asking.{Standing, served}
use Rattle.pair_rises.specs.Rises.{Cover, inside, awaited, missed}
use Rattle.pair_wires.specs.Following.{given_of, givens, is_signal, is_idle, has_signal, has_idle, AreMade, IsMade, IdlesFirst, IsOn, on_its_way, up_there, Follows, LinkApart, heard_from, heard_off, IsFront, in_old, in_fresh, settled_way, sent_on}
use Rattle.pair_wires.specs.Standing.{IsStarting}
use Rattle.pair_wires.specs.Ways.{Carried, Way}

pub contrary : {X : Type 0} (b : Bool) → b ≡ true → b ≡ false → X
contrary b is not_is = let no : true ≡ false = sym is ∙ not_is in absurd cc

-- LISTS
pub given_more : (xs ys : List Carried) → givens (xs ++ ys) ≡ givens xs ++ givens ys
given_more [] ys = refl
given_more (x ∷ xs) ys =
    ap (λ (us : List SignalUnit). given_of x ++ us) (given_more xs ys) ∙ sym (append_assoc (given_of x) (givens xs) (givens ys))

or_right : (a b : Bool) → b ≡ true → (a || b) ≡ true
or_right true b is = refl
or_right false b is = is

or_false : (a b : Bool) → (a || b) ≡ false → (a ≡ false) × (b ≡ false)
or_false true b is = let no : true ≡ false = is in absurd cc
or_false false b is = (refl, is)

both_false : (a b : Bool) → a ≡ false → b ≡ false → (a || b) ≡ false
both_false true b e f = let wrong : true ≡ false = e in absurd cc
both_false false b e f = f

-- what comes behind
idle_more : (xs : List Carried) (c : Carried) → has_idle xs ≡ false → is_idle c ≡ false → has_idle (xs ++ c ∷ []) ≡ false
idle_more [] c none not_idle = both_false (is_idle c) false not_idle refl
idle_more (x ∷ xs) c none not_idle =
    let parts = or_false (is_idle x) (has_idle xs) none in both_false (is_idle x) (has_idle (xs ++ c ∷ [])) parts.0 (idle_more xs c parts.1 not_idle)

idle_before : (xs : List Carried) (c : Carried) → is_idle c ≡ false → has_idle (xs ++ c ∷ []) ≡ true → has_idle xs ≡ true
idle_before xs c not_idle is = go (has_idle xs) refl
  where
    go : (b : Bool) → has_idle xs ≡ b → has_idle xs ≡ true
    go true e = e
    go false e = contrary (has_idle (xs ++ c ∷ [])) is (idle_more xs c e not_idle)

signal_more : (xs : List Carried) (c : Carried) → has_signal xs ≡ false → is_signal c ≡ false → has_signal (xs ++ c ∷ []) ≡ false
signal_more [] c none not_signal = both_false (is_signal c) false not_signal refl
signal_more (x ∷ xs) c none not_signal =
    let parts = or_false (is_signal x) (has_signal xs) none in both_false (is_signal x) (has_signal (xs ++ c ∷ [])) parts.0 (signal_more xs c parts.1 not_signal)

signal_before : (xs : List Carried) (c : Carried) → is_signal c ≡ false → has_signal (xs ++ c ∷ []) ≡ true → has_signal xs ≡ true
signal_before xs c not_signal is = go (has_signal xs) refl
  where
    go : (b : Bool) → has_signal xs ≡ b → has_signal xs ≡ true
    go true e = e
    go false e = contrary (has_signal (xs ++ c ∷ [])) is (signal_more xs c e not_signal)

pub made_more : (xs ys : List Carried) → AreMade xs → AreMade ys → AreMade (xs ++ ys)
made_more [] ys a b = b
made_more (x ∷ xs) ys a b = (a.0, made_more xs ys a.1 b)

-- one that's no such FISU goes behind all
ordered_more : (xs : List Carried) (c : Carried) → is_idle c ≡ false → IdlesFirst xs → IdlesFirst (xs ++ c ∷ [])
ordered_more [] c not_idle first = (λ given. refl, tt)
ordered_more (x ∷ xs) c not_idle first = (λ given. idle_more xs c (first.0 given) not_idle, ordered_more xs c not_idle first.1)

-- and one that is, behind what no set gave
no_given : (c : Carried) (cs : List Carried) → givens (c ∷ cs) ≡ [] → (c.given ≡ false) × (givens cs ≡ [])
no_given c cs none = go c.given refl
  where
    go : (b : Bool) → c.given ≡ b → (c.given ≡ false) × (givens cs ≡ [])
    go true e = let no : c.unit ∷ givens cs ≡ [] = subst (λ (b : Bool). (if b then c.unit ∷ [] else []) ++ givens cs ≡ []) e none in absurd cc
    go false e = (e, subst (λ (b : Bool). (if b then c.unit ∷ [] else []) ++ givens cs ≡ []) e none)

ordered_idle : (xs : List Carried) (c : Carried) → c.given ≡ false → givens xs ≡ [] → IdlesFirst (xs ++ c ∷ [])
ordered_idle [] c not_given none = (λ given. contrary c.given given not_given, tt)
ordered_idle (x ∷ xs) c not_given none =
    let parts = no_given x xs none in (λ given. contrary x.given given parts.0, ordered_idle xs c not_given parts.1)

not_is_given : (c : Carried) → c.given ≡ false → given_of c ≡ []
not_is_given c e = ap (λ (b : Bool). if b then c.unit ∷ [] else []) e

is_is_given : (c : Carried) → c.given ≡ true → given_of c ≡ c.unit ∷ []
is_is_given c e = ap (λ (b : Bool). if b then c.unit ∷ [] else []) e

pub no_front : {X : Type 0} (x : X) (xs : List X) → x ∷ xs ≡ [] → ⊥
no_front x xs e = absurd cc

behind : {X : Type 0} (xs ys : List X) (x y : X) → x ∷ xs ≡ y ∷ ys → xs ≡ ys
behind xs ys x y same = cc

module _ (l : ℕ) where
  -- ITS SET GOES ON
  pub goes_near : (mine far : Cover) (s s' t : State) (line : List SignalUnit) (st : Standing) (marked : Bool) (way : Way) → GoesOn l s s'
      → (HearsNoneYet l s → HearsNoneYet l s') → Follows mine far l s t line st marked way → Follows mine far l s' t line st marked way
  goes_near mine far s s' t line st marked way goes till f = record {
    gone = f.gone;
    carries = f.carries;
    made_old = f.made_old;
    made_fresh = f.made_fresh;
    aged = λ is. f.aged (back is);
    calm = f.calm;
    joins = f.joins;
    ordered = λ is. f.ordered (back is);
    unheard = λ up idle. till (f.unheard (goes.up up) idle);
    unsent = f.unsent;
    first = λ waits up. till (f.first waits (goes.up up));
  }
    where
      back : IsOn l s' st marked → IsOn l s st marked
      back (on_its_way starting unmarked) = on_its_way starting unmarked
      back (up_there up) = up_there (goes.up up)

  pub goes_far : (mine far : Cover) (s t t' : State) (line : List SignalUnit) (st : Standing) (marked : Bool) (way : Way)
      → (is_settled l t ≡ true → is_settled l t' ≡ true) → Follows mine far l s t line st marked way → Follows mine far l s t' line st marked way
  goes_far mine far s t t' line st marked way goes f = record {
    gone = f.gone;
    carries = f.carries;
    made_old = f.made_old;
    made_fresh = f.made_fresh;
    aged = f.aged;
    calm = f.calm;
    joins = λ starting unmarked some. elim (f.joins starting unmarked some) [
      | inl waits ↦ inl waits
      | inr settled ↦ inr (goes settled)
    ];
    ordered = f.ordered;
    unheard = f.unheard;
    unsent = f.unsent;
    first = f.first;
  }

  -- a far end that can't join any more says less
  pub far_less : (mine far far' : Cover) (s t : State) (line : List SignalUnit) (st : Standing) (marked : Bool) (way : Way)
      → (far' ≡ awaited → far ≡ awaited) → Follows mine far l s t line st marked way → Follows mine far' l s t line st marked way
  far_less mine far far' s t line st marked way less f = record {
    gone = f.gone;
    carries = f.carries;
    made_old = f.made_old;
    made_fresh = f.made_fresh;
    aged = f.aged;
    calm = f.calm;
    joins = f.joins;
    ordered = f.ordered;
    unheard = f.unheard;
    unsent = λ waits. f.unsent (less waits);
    first = λ waits up. f.first (less waits) up;
  }

  -- IT FALLS, or is told to stop
  pub ends : (mine mine' far : Cover) (s t : State) (line : List SignalUnit) (st st' : Standing) (marked : Bool) (way : Way)
      → Follows mine far l s t line st marked way → Follows mine' far l s t line st' true way
  ends mine mine' far s t line st st' marked way f = record {
    gone = f.gone;
    carries = f.carries;
    made_old = f.made_old;
    made_fresh = f.made_fresh;
    aged = λ is. f.aged (back is);
    calm = λ starting wrong. let not : true ≡ false = wrong in absurd cc;
    joins = λ starting wrong some. let not : true ≡ false = wrong in absurd cc;
    ordered = λ is. f.ordered (back is);
    unheard = f.unheard;
    unsent = f.unsent;
    first = f.first;
  }
    where
      back : IsOn l s st' true → IsOn l s st marked
      back (on_its_way starting wrong) = let not : true ≡ false = wrong in absurd cc
      back (up_there up) = up_there up

  -- all is old then
  pub settles : (mine far : Cover) (s t : State) (line : List SignalUnit) (st : Standing) (marked : Bool) (way : Way)
      → Follows mine far l s t line st marked way → Follows mine far l s t line st marked (settled_way way)
  settles mine far s t line st marked way f = record {
    gone = f.gone;
    carries = append-nil (givens (way.old ++ way.fresh)) ∙ given_more way.old way.fresh ∙ f.carries;
    made_old = made_more way.old way.fresh f.made_old f.made_fresh;
    made_fresh = tt;
    aged = λ is. (line, given_more way.old way.fresh ∙ f.carries);
    calm = λ starting unmarked never. refl;
    joins = λ starting unmarked some. let no : false ≡ true = some in absurd cc;
    ordered = λ is. tt;
    unheard = λ up some. let no : false ≡ true = some in absurd cc;
    unsent = f.unsent;
    first = f.first;
  }

  -- IT BEGINS TO ALIGN
  pub begins_to_align : (mine far : Cover) (s t : State) (line : List SignalUnit) (st st' : Standing) (marked : Bool) (way : Way) → way.fresh ≡ []
      → Follows mine far l s t line st marked way → Follows mine far l s t line st' false way
  begins_to_align mine far s t line st st' marked way none f = record {
    gone = f.gone;
    carries = f.carries;
    made_old = f.made_old;
    made_fresh = f.made_fresh;
    aged = λ is. (line, sym (append-nil (givens way.old)) ∙ ap (λ (cs : List Carried). givens way.old ++ givens cs) (sym none) ∙ f.carries);
    calm = λ starting unmarked never. ap givens none;
    joins = λ starting unmarked some. let no : false ≡ true = sym (ap has_signal none) ∙ some in absurd cc;
    ordered = λ is. subst IdlesFirst (sym none) tt;
    unheard = λ up some. let no : false ≡ true = sym (ap has_idle none) ∙ some in absurd cc;
    unsent = f.unsent;
    first = f.first;
  }

  -- one that is on its way goes on so
  pub completes_it : (mine far : Cover) (s t : State) (line : List SignalUnit) (st st' : Standing) (marked : Bool) (way : Way) → IsStarting st
      → Follows mine far l s t line st marked way → Follows mine far l s t line st' marked way
  completes_it mine far s t line st st' marked way starting f = record {
    gone = f.gone;
    carries = f.carries;
    made_old = f.made_old;
    made_fresh = f.made_fresh;
    aged = λ is. f.aged (back is);
    calm = λ so_far unmarked never. f.calm starting unmarked never;
    joins = λ so_far unmarked some. f.joins starting unmarked some;
    ordered = λ is. f.ordered (back is);
    unheard = f.unheard;
    unsent = f.unsent;
    first = f.first;
  }
    where
      back : IsOn l s st' marked → IsOn l s st marked
      back (on_its_way so_far unmarked) = on_its_way starting unmarked
      back (up_there up) = up_there up

  -- A UNIT LEAVES THE WAY that the set isn't asked about: one that no set gave
  pub other_passes : (mine far : Cover) (s t : State) (line : List SignalUnit) (st : Standing) (marked : Bool) (way : Way) (c : Carried) → IsFront c way
      → c.given ≡ false → Follows mine far l s t line st marked way → Follows mine far l s t line st marked (heard_off way)
  other_passes mine far s t line st marked way c (in_old old at) not_given f = record {
    gone = f.gone;
    carries = ap (λ (w : Way). givens w.old ++ givens w.fresh) off ∙ same ∙ f.carries;
    made_old = subst (λ (w : Way). AreMade w.old) (sym off) (subst AreMade at f.made_old).1;
    made_fresh = subst (λ (w : Way). AreMade w.fresh) (sym off) f.made_fresh;
    aged = λ is. let a = f.aged is in (a.0, ap (λ (w : Way). givens w.old) off ∙ sym (ap givens at ∙ ap (λ (us : List SignalUnit). us ++ givens old) (not_is_given c not_given)) ∙ a.1);
    calm = λ starting unmarked never. ap (λ (w : Way). givens w.fresh) off ∙ f.calm starting unmarked never;
    joins = λ starting unmarked some. f.joins starting unmarked (sym (ap (λ (w : Way). has_signal w.fresh) off) ∙ some);
    ordered = λ is. subst (λ (w : Way). IdlesFirst w.fresh) (sym off) (f.ordered is);
    unheard = λ up some. f.unheard up (sym (ap (λ (w : Way). has_idle w.fresh) off) ∙ some);
    unsent = f.unsent;
    first = f.first;
  }
    where
      off : heard_off way ≡ record { old = old; fresh = way.fresh }
      off = ap (λ (cs : List Carried). heard_from cs way.fresh) at

      same : givens old ++ givens way.fresh ≡ givens way.old ++ givens way.fresh
      same = sym (ap (λ (cs : List Carried). givens cs ++ givens way.fresh) at ∙ ap (λ (us : List SignalUnit). (us ++ givens old) ++ givens way.fresh) (not_is_given c not_given))
  other_passes mine far s t line st marked way c (in_fresh fresh none at) not_given f = record {
    gone = f.gone;
    carries = ap (λ (w : Way). givens w.old ++ givens w.fresh) off ∙ same ∙ f.carries;
    made_old = subst (λ (w : Way). AreMade w.old) (sym off) tt;
    made_fresh = subst (λ (w : Way). AreMade w.fresh) (sym off) (subst AreMade at f.made_fresh).1;
    aged = λ is. let a = f.aged is in (a.0, ap (λ (w : Way). givens w.old) off ∙ sym (ap givens none) ∙ a.1);
    calm = λ starting unmarked never. ap (λ (w : Way). givens w.fresh) off ∙ sym less ∙ f.calm starting unmarked never;
    joins = λ starting unmarked some. f.joins starting unmarked
        (ap has_signal at ∙ or_right (is_signal c) (has_signal fresh) (sym (ap (λ (w : Way). has_signal w.fresh) off) ∙ some));
    ordered = λ is. subst (λ (w : Way). IdlesFirst w.fresh) (sym off) (subst IdlesFirst at (f.ordered is)).1;
    unheard = λ up some. f.unheard up (ap has_idle at ∙ or_right (is_idle c) (has_idle fresh) (sym (ap (λ (w : Way). has_idle w.fresh) off) ∙ some));
    unsent = f.unsent;
    first = f.first;
  }
    where
      off : heard_off way ≡ record { old = []; fresh = fresh }
      off = ap (λ (cs : List Carried). heard_from cs way.fresh) none ∙ ap (λ (cs : List Carried). heard_from [] cs) at

      less : givens way.fresh ≡ givens fresh
      less = ap givens at ∙ ap (λ (us : List SignalUnit). us ++ givens fresh) (not_is_given c not_given)

      same : givens fresh ≡ givens way.old ++ givens way.fresh
      same = sym less ∙ sym (ap (λ (cs : List Carried). givens cs ++ givens way.fresh) none)

  -- one that a set gave, of which the world's line has none any more, or which stands in front of it
  pub data Passes (mine far : Cover) (s t : State) (line : List SignalUnit) (st : Standing) (marked : Bool) (way : Way) (c : Carried) : Type 0 where
    was_gone : Follows mine far l s t line st marked (heard_off way) → Passes mine far s t line st marked way c
    leads : (rest : List SignalUnit) → line ≡ c.unit ∷ rest → Follows mine far l s t rest st marked (heard_off way) → Passes mine far s t line st marked way c

  pub given_passes : (mine far : Cover) (s t : State) (line : List SignalUnit) (st : Standing) (marked : Bool) (way : Way) (c : Carried) → IsFront c way
      → c.given ≡ true → Follows mine far l s t line st marked way → Passes mine far s t line st marked way c
  given_passes mine far s t line st marked way c (in_old old at) given f = go f.gone f.carries f.aged
    where
      off : heard_off way ≡ record { old = old; fresh = way.fresh }
      off = ap (λ (cs : List Carried). heard_from cs way.fresh) at

      old_is : givens way.old ≡ c.unit ∷ givens old
      old_is = ap givens at ∙ ap (λ (us : List SignalUnit). us ++ givens old) (is_is_given c given)

      -- what stays the same
      kept : (rest : List SignalUnit) → (gone : List SignalUnit) → givens old ++ givens way.fresh ≡ gone ++ rest
          → (IsOn l s st marked → (left : List SignalUnit) × (givens old ≡ gone ++ left)) → (far ≡ awaited → rest ≡ [])
          → Follows mine far l s t rest st marked (heard_off way)
      kept rest gone carries aged unsent = subst (λ (w : Way). Follows mine far l s t rest st marked w) (sym off) (record {
        gone = gone;
        carries = carries;
        made_old = (subst AreMade at f.made_old).1;
        made_fresh = f.made_fresh;
        aged = aged;
        calm = f.calm;
        joins = f.joins;
        ordered = f.ordered;
        unheard = f.unheard;
        unsent = unsent;
        first = f.first;
      })

      go : (gone : List SignalUnit) → givens way.old ++ givens way.fresh ≡ gone ++ line
          → (IsOn l s st marked → (left : List SignalUnit) × (givens way.old ≡ gone ++ left)) → Passes mine far s t line st marked way c
      go [] carries aged =
          let same : line ≡ c.unit ∷ (givens old ++ givens way.fresh) = sym carries ∙ ap (λ (us : List SignalUnit). us ++ givens way.fresh) old_is in
          leads (givens old ++ givens way.fresh) same (kept (givens old ++ givens way.fresh) [] refl (λ is. (givens old, refl))
          (λ waits. absurd (no_front c.unit (givens old ++ givens way.fresh) (sym same ∙ f.unsent waits))))
      go (u ∷ gone) carries aged =
          let whole : c.unit ∷ (givens old ++ givens way.fresh) ≡ u ∷ (gone ++ line) = sym (ap (λ (us : List SignalUnit). us ++ givens way.fresh) old_is) ∙ carries in
          was_gone (kept line gone (behind (givens old ++ givens way.fresh) (gone ++ line) c.unit u whole)
          (λ is. ((aged is).0, behind (givens old) (gone ++ (aged is).0) c.unit u (sym old_is ∙ (aged is).1))) f.unsent)
  given_passes mine far s t line st marked way c (in_fresh fresh none at) given f = go f.gone f.carries f.aged
    where
      off : heard_off way ≡ record { old = []; fresh = fresh }
      off = ap (λ (cs : List Carried). heard_from cs way.fresh) none ∙ ap (λ (cs : List Carried). heard_from [] cs) at

      fresh_is : givens way.fresh ≡ c.unit ∷ givens fresh
      fresh_is = ap givens at ∙ ap (λ (us : List SignalUnit). us ++ givens fresh) (is_is_given c given)

      none_given : givens way.old ≡ []
      none_given = ap givens none

      kept : (rest : List SignalUnit) → (gone : List SignalUnit) → givens fresh ≡ gone ++ rest
          → (IsOn l s st marked → (left : List SignalUnit) × ([] ≡ gone ++ left)) → (far ≡ awaited → rest ≡ [])
          → Follows mine far l s t rest st marked (heard_off way)
      kept rest gone carries aged unsent = subst (λ (w : Way). Follows mine far l s t rest st marked w) (sym off) (record {
        gone = gone;
        carries = carries;
        made_old = tt;
        made_fresh = (subst AreMade at f.made_fresh).1;
        aged = aged;
        calm = λ starting unmarked never. absurd (no_front c.unit (givens fresh) (sym fresh_is ∙ f.calm starting unmarked never));
        joins = λ starting unmarked some. f.joins starting unmarked (ap has_signal at ∙ or_right (is_signal c) (has_signal fresh) some);
        ordered = λ is. (subst IdlesFirst at (f.ordered is)).1;
        unheard = λ up some. f.unheard up (ap has_idle at ∙ or_right (is_idle c) (has_idle fresh) some);
        unsent = unsent;
        first = f.first;
      })

      go : (gone : List SignalUnit) → givens way.old ++ givens way.fresh ≡ gone ++ line
          → (IsOn l s st marked → (left : List SignalUnit) × (givens way.old ≡ gone ++ left)) → Passes mine far s t line st marked way c
      go [] carries aged =
          let same : line ≡ c.unit ∷ givens fresh =
          sym carries ∙ ap (λ (us : List SignalUnit). us ++ givens way.fresh) none_given ∙ fresh_is in
          leads (givens fresh) same (kept (givens fresh) [] refl (λ is. ([], refl))
          (λ waits. absurd (no_front c.unit (givens fresh) (sym same ∙ f.unsent waits))))
      go (u ∷ gone) carries aged =
          let whole : c.unit ∷ givens fresh ≡ u ∷ (gone ++ line) =
          sym fresh_is ∙ sym (ap (λ (us : List SignalUnit). us ++ givens way.fresh) none_given) ∙ carries in
          was_gone (kept line gone (behind (givens fresh) (gone ++ line) c.unit u whole)
          (λ is. absurd (no_front u (gone ++ (aged is).0) (sym (aged is).1 ∙ none_given))) f.unsent)

  -- one that a set gave is heard
  pub record IsHeardOff (mine far : Cover) (s t : State) (line : List SignalUnit) (st : Standing) (marked : Bool) (way : Way) (c : Carried) : Type 0 where
    pub rest : List SignalUnit
    pub line_is : line ≡ c.unit ∷ rest
    pub follows : Follows mine far l s t rest st marked (heard_off way)

  pub given_heard : (mine far : Cover) (s s' t : State) (line : List SignalUnit) (st : Standing) (marked : Bool) (way : Way) (c : Carried) → IsFront c way
      → way.old ≡ [] → c.given ≡ true → is_up l s ≡ true → Follows mine far l s t line st marked way → IsHeardOff mine far s' t line st marked way c
  given_heard mine far s s' t line st marked way c (in_old old at) none given up f = absurd (no_front c old (sym at ∙ none))
  given_heard mine far s s' t line st marked way c (in_fresh fresh none at) empty given up f = record {
    rest = givens fresh;
    line_is = line_is;
    follows = subst (λ (w : Way). Follows mine far l s' t (givens fresh) st marked w) (sym off) (record {
      gone = [];
      carries = refl;
      made_old = tt;
      made_fresh = (subst AreMade at f.made_fresh).1;
      aged = λ is. ([], refl);
      calm = λ starting unmarked never. absurd (no_front c.unit (givens fresh) (sym fresh_is ∙ f.calm starting unmarked never));
      joins = λ starting unmarked some. f.joins starting unmarked (ap has_signal at ∙ or_right (is_signal c) (has_signal fresh) some);
      ordered = λ is. first.1;
      unheard = λ up some. contrary (has_idle fresh) some (first.0 given);
      unsent = λ waits. absurd (no_front c.unit (givens fresh) (sym line_is ∙ f.unsent waits));
      first = λ waits up. absurd (no_front c.unit (givens fresh) (sym line_is ∙ f.unsent waits));
    });
  }
    where
      off : heard_off way ≡ record { old = []; fresh = fresh }
      off = ap (λ (cs : List Carried). heard_from cs way.fresh) none ∙ ap (λ (cs : List Carried). heard_from [] cs) at

      fresh_is : givens way.fresh ≡ c.unit ∷ givens fresh
      fresh_is = ap givens at ∙ ap (λ (us : List SignalUnit). us ++ givens fresh) (is_is_given c given)

      first : IdlesFirst (c ∷ fresh)
      first = subst IdlesFirst at (f.ordered (up_there up))

      none_gone : f.gone ≡ []
      none_gone = go f.gone (sym (ap givens none) ∙ (f.aged (up_there up)).1)
        where
          go : (gone : List SignalUnit) → [] ≡ gone ++ (f.aged (up_there up)).0 → gone ≡ []
          go [] e = refl
          go (u ∷ gone) e = absurd (no_front u (gone ++ (f.aged (up_there up)).0) (sym e))

      line_is : line ≡ c.unit ∷ givens fresh
      line_is = sym (ap (λ (us : List SignalUnit). us ++ line) none_gone) ∙ sym f.carries
          ∙ ap (λ (cs : List Carried). givens cs ++ givens way.fresh) none ∙ fresh_is

  -- A UNIT JOINS THE WAY: a status
  other_fresh : (cs : List Carried) (c : Carried) → c.given ≡ false → givens (cs ++ c ∷ []) ≡ givens cs
  other_fresh cs c not_given =
      given_more cs (c ∷ []) ∙ ap (λ (us : List SignalUnit). givens cs ++ (us ++ [])) (not_is_given c not_given) ∙ append-nil (givens cs)

  pub status_joins : (mine far : Cover) (s t : State) (line : List SignalUnit) (st : Standing) (marked : Bool) (way : Way) (c : Carried) → c.given ≡ false
      → is_signal c ≡ false → IsMade c → Follows mine far l s t line st marked way → Follows mine far l s t line st marked (sent_on c way)
  status_joins mine far s t line st marked way c not_given not_signal is_made f = record {
    gone = f.gone;
    carries = ap (λ (us : List SignalUnit). givens way.old ++ us) (other_fresh way.fresh c not_given) ∙ f.carries;
    made_old = f.made_old;
    made_fresh = made_more way.fresh (c ∷ []) f.made_fresh (is_made, tt);
    aged = f.aged;
    calm = λ starting unmarked never. other_fresh way.fresh c not_given ∙ f.calm starting unmarked never;
    joins = λ starting unmarked some. f.joins starting unmarked (signal_before way.fresh c not_signal some);
    ordered = λ is. ordered_more way.fresh c not_idle (f.ordered is);
    unheard = λ up some. f.unheard up (idle_before way.fresh c not_idle some);
    unsent = f.unsent;
    first = f.first;
  }
    where
      not_idle : is_idle c ≡ false
      not_idle = ap (λ (b : Bool). b && is_signal c) (ap not not_given) ∙ not_signal

  -- the FISU of a terminal whose set isn't asked yet, where it's settled there
  cancel : (gone left fresh line : List SignalUnit) → (gone ++ left) ++ fresh ≡ gone ++ line → left ++ fresh ≡ line
  cancel [] left fresh line same = same
  cancel (u ∷ gone) left fresh line same = cancel gone left fresh line cc

  nothing_left : (left fresh : List SignalUnit) → left ++ fresh ≡ [] → fresh ≡ []
  nothing_left [] fresh none = none
  nothing_left (u ∷ left) fresh none = absurd (no_front u (left ++ fresh) none)

  never_missed : missed ≡ awaited → ⊥
  never_missed e = absurd cc

  never_inside : inside ≡ awaited → ⊥
  never_inside e = absurd cc

  module _ (mine far : Cover) (s t : State) (line : List SignalUnit) (st : Standing) (marked : Bool) (way : Way) (a : LinkApart mine far l s t)
      (f : Follows mine far l s t line st marked way) where
    -- where it's up here though settled there the far end may join yet
    pub far_waits : is_settled l t ≡ true → is_up l s ≡ true → far ≡ awaited
    far_waits settled up = go far refl
      where
        go : (cover : Cover) → far ≡ cover → far ≡ awaited
        go awaited e = e
        go inside e = contrary (is_up l s) up (a.settled_far settled (λ is. never_inside (sym e ∙ is)))
        go missed e = contrary (is_up l s) up (a.settled_far settled (λ is. never_missed (sym e ∙ is)))

    pub none_fresh : is_settled l t ≡ true → IsOn l s st marked → givens way.fresh ≡ []
    none_fresh settled (on_its_way starting unmarked) = f.calm starting unmarked (λ waits. contrary (is_settled l t) settled (a.awaits waits))
    none_fresh settled (up_there up) =
        let x = f.aged (up_there up) in
        nothing_left x.0 (givens way.fresh)
        (cancel f.gone x.0 (givens way.fresh) []
        (ap (λ (us : List SignalUnit). us ++ givens way.fresh) (sym x.1) ∙ f.carries ∙ ap (λ (us : List SignalUnit). f.gone ++ us) (f.unsent (far_waits settled up))))

    pub idle_joins : (c : Carried) → c.given ≡ false → IsMade c → is_settled l t ≡ true → Follows mine far l s t line st marked (sent_on c way)
    idle_joins c not_given is_made settled = record {
      gone = f.gone;
      carries = ap (λ (us : List SignalUnit). givens way.old ++ us) (other_fresh way.fresh c not_given) ∙ f.carries;
      made_old = f.made_old;
      made_fresh = made_more way.fresh (c ∷ []) f.made_fresh (is_made, tt);
      aged = f.aged;
      calm = λ starting unmarked never. other_fresh way.fresh c not_given ∙ f.calm starting unmarked never;
      joins = λ starting unmarked some. inr settled;
      ordered = λ is. ordered_idle way.fresh c not_given (none_fresh settled is);
      unheard = λ up some. f.first (far_waits settled up) up;
      unsent = f.unsent;
      first = f.first;
    }

    -- one that a set gave, where it's up there
    pub near_waits : is_up l t ≡ true → is_settled l s ≡ true → mine ≡ awaited
    near_waits up settled = go mine refl
      where
        go : (cover : Cover) → mine ≡ cover → mine ≡ awaited
        go awaited e = e
        go inside e = contrary (is_up l t) up (a.settled settled (λ is. never_inside (sym e ∙ is)))
        go missed e = contrary (is_up l t) up (a.settled settled (λ is. never_missed (sym e ∙ is)))

    pub given_joins : (c : Carried) → c.given ≡ true → is_up l t ≡ true → (is_settled l t ≡ true → ⊥) → (IsStarting st → is_settled l s ≡ true)
        → Follows mine far l s t (line ++ c.unit ∷ []) st marked (sent_on c way)
    given_joins c given up not_settled starts = record {
      gone = f.gone;
      carries = ap (λ (us : List SignalUnit). givens way.old ++ us) more ∙ sym (append_assoc (givens way.old) (givens way.fresh) (c.unit ∷ []))
          ∙ ap (λ (us : List SignalUnit). us ++ c.unit ∷ []) f.carries ∙ append_assoc f.gone line (c.unit ∷ []);
      made_old = f.made_old;
      made_fresh = made_more way.fresh (c ∷ []) f.made_fresh ((λ not_given not_status. contrary c.given given not_given), tt);
      aged = f.aged;
      calm = λ starting unmarked never. absurd (never (near_waits up (starts starting)));
      joins = λ starting unmarked some. inl (near_waits up (starts starting));
      ordered = λ is. ordered_more way.fresh c not_idle (f.ordered is);
      unheard = λ up some. f.unheard up (idle_before way.fresh c not_idle some);
      unsent = λ waits. absurd (not_settled (a.waits_far waits));
      first = f.first;
    }
      where
        more : givens (way.fresh ++ c ∷ []) ≡ givens way.fresh ++ c.unit ∷ []
        more = given_more way.fresh (c ∷ []) ∙ ap (λ (us : List SignalUnit). givens way.fresh ++ (us ++ [])) (is_is_given c given)

        not_idle : is_idle c ≡ false
        not_idle = ap (λ (b : Bool). b && is_signal c) (ap not given)

    -- IT COMES UP: first of the two
    pub first_near : (s' : State) → IsStarting st → marked ≡ false → way.old ≡ [] → is_settled l t ≡ true → HearsNoneYet l s'
        → Follows inside awaited l s' t [] served false way
    first_near s' starting unmarked none settled hears = record {
      gone = [];
      carries = ap (λ (cs : List Carried). givens cs ++ givens way.fresh) none ∙ none_fresh settled (on_its_way starting unmarked);
      made_old = f.made_old;
      made_fresh = f.made_fresh;
      aged = λ is. ([], ap givens none);
      calm = λ not_so unmarked never. absurd not_so;
      joins = λ not_so unmarked some. absurd not_so;
      ordered = λ is. f.ordered (on_its_way starting unmarked);
      unheard = λ up some. hears;
      unsent = λ waits. refl;
      first = λ waits up. hears;
    }

    -- the far end then
    pub first_far : (t' : State) → (marked ≡ true → way.fresh ≡ []) → is_settled l s ≡ true → is_up l s ≡ false → is_settled l t ≡ true
        → Follows awaited inside l s t' [] st marked way
    first_far t' all_old settled down settled_far = record {
      gone = givens way.old ++ givens way.fresh;
      carries = sym (append-nil (givens way.old ++ givens way.fresh));
      made_old = f.made_old;
      made_fresh = f.made_fresh;
      aged = λ is. (
        [],
        sym (append-nil (givens way.old)) ∙ sym (append-nil (givens way.old ++ []))
            ∙ ap (λ (us : List SignalUnit). (givens way.old ++ us) ++ []) (sym (none_of is)),
      );
      calm = λ starting unmarked never. absurd (never refl);
      joins = λ starting unmarked some. inl refl;
      ordered = λ is. f.ordered (back is);
      unheard = λ up some. contrary (is_up l s) up down;
      unsent = λ waits. absurd (never_inside waits);
      first = λ waits up. absurd (never_inside waits);
    }
      where
        back : IsOn l s st marked → IsOn l s st marked
        back is = is

        none_of : IsOn l s st marked → givens way.fresh ≡ []
        none_of is = none_fresh settled_far is

    -- second of the two
    pub second_near : (s' : State) → IsStarting st → marked ≡ false → mine ≡ awaited → HearsNoneYet l s' → Follows inside far l s' t line served false way
    second_near s' starting unmarked waits hears = record {
      gone = f.gone;
      carries = f.carries;
      made_old = f.made_old;
      made_fresh = f.made_fresh;
      aged = λ is. f.aged (on_its_way starting unmarked);
      calm = λ not_so unmarked never. absurd not_so;
      joins = λ not_so unmarked some. absurd not_so;
      ordered = λ is. f.ordered (on_its_way starting unmarked);
      unheard = λ up some. hears;
      unsent = f.unsent;
      first = λ waits up. hears;
    }

    pub second_far : (t' : State) → far ≡ awaited → is_settled l s ≡ false → (IsStarting st → is_settled l s ≡ true)
        → Follows mine inside l s t' line st marked way
    second_far t' waits not_settled starts = record {
      gone = f.gone;
      carries = f.carries;
      made_old = f.made_old;
      made_fresh = f.made_fresh;
      aged = f.aged;
      calm = f.calm;
      joins = λ starting unmarked some. contrary (is_settled l s) (starts starting) not_settled;
      ordered = f.ordered;
      unheard = f.unheard;
      unsent = λ e. absurd (never_inside e);
      first = λ e. absurd (never_inside e);
    }
