-- Each run of two ends keeps both directions of the link, whatever their error control.
use Rattle.std.proofs.Common.{refl, arith, ◌≡◌, ◌∙◌, ap, ℕ, ◌+◌, ◌<◌, true, Some, List, [], ◌∷◌, ◌++◌, length, drop, zero, suc}
use Rattle.std.specs.Prelude.{slice_get, is_some}
use Rattle.l2_window.specs.Control.{fsn_of, bsn_of}
use Rattle.l2_window.specs.Window.{Profile, WindowState, fsn_before_first}
use Rattle.l2_window.proofs.Numbers.{below, below_by, in_header}
use Rattle.l2_window.specs.Line.{Carried}
use Rattle.l2_window.specs.Link.{Rules, End, World, flip, message_of, Moves, chosen, unit_of, part_of, Offers, TakesBack, Emits, Arrives, Loses, Step, offers, takes_back, emits, arrives, loses, Run, begins, steps, steps_far, IsFaithful, OneLink}
use Rattle.l2_window.specs.declared.control.Choice.{Choice}
use Rattle.l2_window.specs.declared.control.Choice.TheVariants.{Again, First, Fill}
use Rattle.l2_window.proofs.Line.{behind-low}
use Rattle.l2_window.proofs.Way as way
use Rattle.l2_window.proofs.Way.{Side}
use Rattle.l2_window.proofs.Rules.{AreKept}

get_within : (xs : List ℕ) (place : ℕ) → place < length xs → (x : ℕ) × (slice_get xs place ≡ Some x)
get_within [] place e = absurd (omega arith)
get_within (x ∷ xs) zero e = (x, refl)
get_within (x ∷ xs) (suc place) e = get_within xs place (omega arith)

get_first : (xs ys : List ℕ) (x : ℕ) → xs ≡ x ∷ ys → slice_get xs 0 ≡ Some x
get_first xs ys x e = rw e refl

module _ {State : Type 0} (rules : Rules State) (InStep : State → State → List Carried → List Carried → Type 0) (kept : AreKept rules InStep) where
  abbrev pub side : End State → Side
  side end = record { window = end.window; expected = rules.expected end.control; sent = end.sent; took = end.took; acked = end.acked }

  abbrev pub Way : Profile → End State → End State → List Carried → List Carried → Type 0
  Way p s r out back = way.Way p (side s) (side r) out back

  -- the numbers of a header are those of the window, since twelve bits are enough for them
  head_bsn : (c : State) (w : WindowState) (fsn : ℕ) → (rules.head c w fsn).bsn ≡ bsn_of (rules.expected c) w
  head_bsn c w fsn = kept.bsn c w fsn ∙ in_header w.profile (bsn_of (rules.expected c) w) (below w.profile (rules.expected c + fsn_before_first w.profile))

  head_fsn : (c : State) (w : WindowState) (choice : Choice) → (rules.head c w (fsn_of choice w)).fsn ≡ fsn_of choice w
  head_fsn c w (Again place) = kept.fsn c w (fsn_of (Again place) w) ∙ in_header w.profile (fsn_of (Again place) w) (below w.profile (w.last + 1 + place))
  head_fsn c w First = kept.fsn c w (fsn_of First w) ∙ in_header w.profile (fsn_of First w) (below w.profile (w.last + 1 + length w.unacked))
  head_fsn c w Fill = kept.fsn c w (fsn_of Fill w) ∙ in_header w.profile (fsn_of Fill w) (below w.profile (w.last + length w.unacked))

  -- whatever is chosen tells the counts
  tells_by : (p : Profile) (s r new : End State) (out back : List Carried) (o : ℕ) (choice : Choice) → chosen rules o s ≡ choice → Way p s r out back → new.control ≡ rules.after choice o s.control s.window → Moves choice s.window new.window → (more : List ℕ) × way.Tells p (side s) (side new) (record { head = rules.head s.control s.window (fsn_of choice s.window); message = message_of choice s.window }) more
  tells_by p s r new out back o (Again place) e w control moves =
      let at = get_within s.window.unacked place (kept.again o s.control s.window place e) in
      ([], rw (at.1) (way.tells-repeat p (side s) (side r) (side new) out back place at.0 _ w at.1 (head_fsn s.control s.window (Again place)) moves (ap rules.expected control ∙ kept.same (Again place) o s.control s.window) (head_bsn s.control s.window (fsn_of (Again place) s.window))))
  tells_by p s r new out back o First e w control (m, sends) =
      (m ∷ [], rw (get_first s.window.unsent new.window.unsent m sends.unsent) (way.tells-new p (side s) (side r) (side new) out back m _ w (kept.first o s.control s.window e) sends (head_fsn s.control s.window First) (ap rules.expected control ∙ kept.same First o s.control s.window) (head_bsn s.control s.window (fsn_of First s.window))))
  tells_by p s r new out back o Fill e w control moves =
      ([], way.tells-fill p (side s) (side r) (side new) out back _ w (head_fsn s.control s.window Fill) moves (ap rules.expected control ∙ kept.same Fill o s.control s.window) (head_bsn s.control s.window (fsn_of Fill s.window)))

  -- BOTH DIRECTIONS, and what the controls have in step.
  pub record Both (p : Profile) (world : World State) : Type 0 where
    pub there : Way p world.near world.far world.out world.back
    pub again : Way p world.far world.near world.back world.out
    pub in_step : InStep world.near.control world.far.control world.out world.back
    pub in_step_again : InStep world.far.control world.near.control world.back world.out

  -- where nothing changes but what waits
  record WaitsOn (old new : World State) : Type 0 where
    pub profile : new.near.window.profile ≡ old.near.window.profile
    pub last : new.near.window.last ≡ old.near.window.last
    pub unacked : new.near.window.unacked ≡ old.near.window.unacked
    pub near : new.near ≡ record old.near { window = new.near.window }
    pub far : new.far ≡ old.far
    pub out : new.out ≡ old.out
    pub back : new.back ≡ old.back

  waits_on : (p : Profile) (old new : World State) → WaitsOn old new → Both p old → Both p new
  waits_on p old new h b =
      let control : new.near.control ≡ old.near.control = ap (λ (e : End State). e.control) h.near in
      let sent : new.near.sent ≡ old.near.sent = ap (λ (e : End State). e.sent) h.near in
      let took : new.near.took ≡ old.near.took = ap (λ (e : End State). e.took) h.near in
      let acked : new.near.acked ≡ old.near.acked = ap (λ (e : End State). e.acked) h.near in
      record {
        there = rw (h.far, h.out, h.back) (way.offer-forward p (side old.near) (side new.near) (side old.far) old.out old.back b.there h.profile h.last h.unacked sent acked);
        again = rw (h.far, h.out, h.back) (way.offer-backward p (side old.near) (side new.near) (side old.far) old.out old.back b.again h.profile (ap rules.expected control) took);
        in_step = rw (control, h.far, h.out, h.back) b.in_step;
        in_step_again = rw (control, h.far, h.out, h.back) b.in_step_again;
      }

  pub offered : (p : Profile) (old new : World State) (message : ℕ) → Offers rules message old new → Both p old → Both p new
  offered p old new message h b = waits_on p old new (record { profile = h.pushes.profile; last = h.pushes.last; unacked = h.pushes.unacked; near = h.near; far = h.far; out = h.out; back = h.back }) b

  pub taken_back : (p : Profile) (old new : World State) → TakesBack rules old new → Both p old → Both p new
  taken_back p old new h b = waits_on p old new (record { profile = h.withdraws.profile; last = h.withdraws.last; unacked = h.withdraws.unacked; near = h.near; far = h.far; out = h.out; back = h.back }) b

  pub emitted : (p : Profile) (old new : World State) (octets : ℕ) → Emits rules octets old new → Both p old → Both p new
  emitted p old new octets h b =
      let choice = chosen rules octets old.near in
      let unit = unit_of rules octets old.near in
      let t = tells_by p old.near old.far new.near old.out old.back octets choice refl b.there h.control h.window in
      let more : drop (length old.near.window.unacked) new.near.window.unacked ≡ t.0 = ap (λ (xs : List ℕ). drop (length old.near.window.unacked) xs) t.1.unacked ∙ way.drop-front p old.near.window.unacked t.0 in
      let sent : new.near.sent ≡ old.near.sent ++ t.0 = h.sent ∙ ap (λ (xs : List ℕ). old.near.sent ++ xs) more in
      record {
        there = rw (h.far, h.out, h.back) (way.emit-forward p (side old.near) (side new.near) (side old.far) old.out old.back unit t.0 b.there t.1 sent h.acked);
        again = rw (h.far, h.out, h.back) (way.emit-backward p (side old.near) (side new.near) (side old.far) old.out old.back unit t.0 b.again t.1 h.took);
        in_step = rw (h.control, h.far, h.out, h.back) (kept.emit old.near.control old.far.control old.out old.back choice octets _ old.near.window _ b.in_step);
        in_step_again = rw (h.control, h.far, h.out, h.back) (kept.emit_back old.far.control old.near.control old.back old.out choice octets _ old.near.window _ b.in_step_again);
      }

  -- the unit that comes is processed
  processed : (p : Profile) (s r : End State) (out rest : List Carried) (unit : Carried) → Way p s r out (unit ∷ rest) → InStep r.control s.control (unit ∷ rest) out → rules.is_processed s.control s.window unit.head ≡ true
  processed p s r out rest unit w i =
      let a = way.acknowledges p (side s) (side r) out rest unit w in
      kept.processed r.control s.control s.window unit rest out i a.normal

  pub arrived : (p : Profile) (old new : World State) (unit : Carried) → Arrives rules unit old new → Both p old → Both p new
  arrived p old new unit h b =
      let msu = is_some unit.message in
      let there : Way p old.near old.far (unit ∷ new.out) old.back = rw h.out at b.there in
      let again : Way p old.far old.near old.back (unit ∷ new.out) = rw h.out at b.again in
      let in_step : InStep old.near.control old.far.control (unit ∷ new.out) old.back = rw h.out at b.in_step in
      let in_step_again : InStep old.far.control old.near.control old.back (unit ∷ new.out) = rw h.out at b.in_step_again in
      let well = processed p old.far old.near old.back new.out unit again in_step in
      let acked = kept.acked old.far.control old.far.window unit.head msu well in
      let window : new.far.window ≡ record old.far.window { last = unit.head.bsn; unacked = drop (part_of rules unit old.far).acked old.far.window.unacked } = rw (well, ← acked) at h.window in
      let expected : rules.expected new.far.control ≡ _ = ap rules.expected h.control ∙ kept.expected old.far.control old.far.window unit.head msu in
      record {
        there = rw (h.near, h.back) (way.arrive-forward p (side old.near) (side old.far) (side new.far) new.out old.back unit (kept.current old.far.control unit.head) (part_of rules unit old.far).accept there (ap (λ (w : WindowState). w.profile) window) (kept.accept old.far.control old.far.window unit.head msu well) expected h.took);
        again = rw (h.near, h.back) (way.arrive-back p (side old.far) (side new.far) (side old.near) old.back new.out unit (part_of rules unit old.far).acked again acked window h.sent h.acked);
        in_step = rw (h.control, h.near, h.back) (kept.hear old.near.control old.far.control unit new.out old.back old.far.window in_step well);
        in_step_again = rw (h.control, h.near, h.back) (kept.hear_back old.far.control old.near.control unit old.back new.out old.far.window in_step_again well);
      }

  pub lost : (p : Profile) (old new : World State) (before : List Carried) (unit : Carried) (after : List Carried) → Loses rules before unit after old new → Both p old → Both p new
  lost p old new before unit after h b =
      let there : Way p old.near old.far (before ++ unit ∷ after) old.back = rw h.was at b.there in
      let again : Way p old.far old.near old.back (before ++ unit ∷ after) = rw h.was at b.again in
      let in_step : InStep old.near.control old.far.control (before ++ unit ∷ after) old.back = rw h.was at b.in_step in
      let in_step_again : InStep old.far.control old.near.control old.back (before ++ unit ∷ after) = rw h.was at b.in_step_again in
      record {
        there = rw (h.near, h.far, h.out, h.back) (way.lose-forward p (side old.near) (side old.far) before unit after old.back there);
        again = rw (h.near, h.far, h.out, h.back) (way.lose-backward p (side old.far) (side old.near) old.back before unit after again);
        in_step = rw (h.near, h.far, h.out, h.back) (kept.lose old.near.control old.far.control before unit after old.back in_step);
        in_step_again = rw (h.near, h.far, h.out, h.back) (kept.lose_back old.far.control old.near.control old.back before unit after in_step_again);
      }

  pub step : (p : Profile) (old new : World State) → Step rules old new → Both p old → Both p new
  step p _ _ (offers old new message h) b = offered p old new message h b
  step p _ _ (takes_back old new h) b = taken_back p old new h b
  step p _ _ (emits old new octets h) b = emitted p old new octets h b
  step p _ _ (arrives old new unit h) b = arrived p old new unit h b
  step p _ _ (loses old new before unit after h) b = lost p old new before unit after h b

  -- from two states that expect FSN 0, and are in step
  module _ (near far : State) (near_0 : rules.expected near ≡ 0) (far_0 : rules.expected far ≡ 0) (together : InStep near far [] []) (together_again : InStep far near [] []) where
    run : (p : Profile) (world : World State) → Run rules p near far world → Both p world
    run p _ (begins world b c out back) = rw (out, back) (record {
      there = way.begin p (side world.near) (side world.far) b.profile_is c.profile_is b.last b.unacked b.sent b.acked (ap rules.expected c.control ∙ far_0) c.took;
      again = way.begin p (side world.far) (side world.near) c.profile_is b.profile_is c.last c.unacked c.sent c.acked (ap rules.expected b.control ∙ near_0) b.took;
      in_step = rw (b.control, c.control) together;
      in_step_again = rw (b.control, c.control) together_again;
    })
    run p _ (steps old new r s) = step p old new s (run p old r)
    run p _ (steps_far old new r s) =
        let b = run p old r in
        let c = step p (flip old) (flip new) s (record { there = b.again; again = b.there; in_step = b.in_step_again; in_step_again = b.in_step }) in
        record { there = c.again; again = c.there; in_step = c.in_step_again; in_step_again = c.in_step }

    faithful : (p : Profile) (world : World State) → Both p world → IsFaithful rules p world
    faithful p world b = record {
      prefix = b.there.prefix;
      acked = behind-low p world.near.acked (length world.far.took) world.back b.there.backward;
      unacked = b.there.kept;
      processed = well;
      profile_is = b.there.of_sender;
      fits = λ unit rest e. (let again : Way p world.far world.near world.back (unit ∷ rest) = rw e at b.again in let there : Way p world.near world.far (unit ∷ rest) world.back = rw e at b.there in (below_by p unit.head.bsn _ again.backward.2, way.sent_below p (length world.far.took) world.near.sent unit rest there.forward));
      no_fault = λ unit rest e. kept.fault world.far.control world.far.window unit.head (is_some unit.message) (well unit rest e);
    }
      where
        well : (unit : Carried) (rest : List Carried) → world.out ≡ unit ∷ rest → rules.is_processed world.far.control world.far.window unit.head ≡ true
        well unit rest e =
            let again : Way p world.far world.near world.back (unit ∷ rest) = rw e at b.again in
            let in_step : InStep world.near.control world.far.control (unit ∷ rest) world.back = rw e at b.in_step in
            processed p world.far world.near world.back rest unit again in_step

    pub one_link : OneLink rules near far
    one_link p world r =
        let b = run p world r in
        (faithful p world b, faithful p (flip world) (record { there = b.again; again = b.there; in_step = b.in_step_again; in_step_again = b.in_step }))
