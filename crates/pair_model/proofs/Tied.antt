-- THE TIE of a link of two ends to the law of one link: a world of the law that a run leads to, whose messages are the
-- numbers of the rows that are sent on the link (`Tied`). It stays while rows keep their bodies (`stand_kept`,
-- `units_kept`), is the same seen from the other end (`turned`, by induction on the law's run), and goes on with the
-- link (`follows`, by Following.antt): in the law's world all that wait are taken back, and what waits then is offered,
-- one after another (`anew`); the first that wait no longer are taken back (`withdraws`). `lost` is of a unit that leaves the line. Used by
-- Sending.antt, Hearing.antt, Rising.antt, Moving.antt, Pairs.antt and Kept.antt.
use Rattle.l2_units.specs.declared.profile.Profile.{Profile}
use Rattle.l2_window.specs.Window.{fsn_before_first, fsn_count}
use Rattle.std.proofs.Common.{refl, arith, ◌≡◌, ◌∙◌, ap, sym, subst, ℕ, zero, suc, ◌<◌, ◌+◌, ◌%◌, Bool, true, false, nat_lt, List, [], ◌∷◌, ◌++◌, length, map, take, drop, slice_get, Option, Some, None, append_assoc}
use Rattle.std.proofs.lemmas.Bool.{ltb-true}
use Rattle.std.proofs.lemmas.List.{append-nil, drop-map}
use Rattle.std.proofs.lemmas.Option.{same_Some}
use Rattle.std.proofs.Math.ListN.{drop_of_length-le}
use Rattle.std.specs.Option.{option_map}
use Rattle.l2_units.specs.declared.unit.Unit.{Unit as SignalUnit}
use Rattle.l2_units.specs.declared.unit.Unit.TheVariants.{Fisu, Lssu, Msu}
use Rattle.l2_window.specs.Line.{Carried}
use Rattle.l2_window.specs.Link.{End as LinkEnd, World as LinkWorld, flip, offers, takes_back, loses, Run, begins, steps, steps_far, Offers, TakesBack, Loses}
use Rattle.l2_window.specs.Window.{WindowState}
use Rattle.set_events.specs.declared.config.Method.{Method}
use Rattle.set_model.specs.Control.{Control, start_of}
use Rattle.set_model.specs.Laws.{KeepsMessages}
use Rattle.set_model.specs.Rows.{Fate, Row, is_users, row_of, body_at, owner_at, put_ahead, numbers, unack, wait, IsNumbered}
use Rattle.set_model.specs.State.{given, LinkState, State, has_phase_settled, window_of}
use Rattle.set_model.proofs.Rows.{row_is_first}
use Rattle.set_model.proofs.Staying.{messages_stay}
use Rattle.pair_model.specs.Run.{Message}
use Rattle.pair_model.proofs.Controls.{rules}
use Rattle.pair_model.proofs.Counts.{CountStays}
use Rattle.pair_model.proofs.Following.{Follows}

-- MESSAGES AND UNITS, told by the rows of the end that sends them.

-- each message has its body there
abbrev pub StandIn : List Row → List Message → Type 0
StandIn rows [] = Unit {0}
StandIn rows (message ∷ messages) =
    ((body_at message.number rows ≡ Some message.body) × (owner_at message.number rows ≡ Some message.users)) × StandIn rows messages

-- the bodies of these numbers
abbrev pub AreBodies : List Row → List ℕ → List (List ℕ) → Type 0
AreBodies rows [] [] = Unit {0}
AreBodies rows [] (body ∷ bodies) = ⊥
AreBodies rows (number ∷ more) [] = ⊥
AreBodies rows (number ∷ more) (body ∷ bodies) = (body_at number rows ≡ Some body) × AreBodies rows more bodies

abbrev pub IsUnitOf : List Row → Carried → SignalUnit → Type 0
IsUnitOf rows c (Fisu head) = (c.head ≡ head) × (c.message ≡ None)
IsUnitOf rows c (Lssu head status) = ⊥
IsUnitOf rows c (Msu head body) = (number : ℕ) × (c.head ≡ head) × (c.message ≡ Some number) × (body_at number rows ≡ Some body.items)

abbrev pub AreUnits : List Row → List Carried → List SignalUnit → Type 0
AreUnits rows [] [] = Unit {0}
AreUnits rows [] (unit ∷ units) = ⊥
AreUnits rows (c ∷ cs) [] = ⊥
AreUnits rows (c ∷ cs) (unit ∷ units) = IsUnitOf rows c unit × AreUnits rows cs units

-- Rows that keep their bodies keep all this.
pub record KeepBodies (rows new : List Row) : Type 0 where
  pub bodies : (number : ℕ) (body : List ℕ) → body_at number rows ≡ Some body → body_at number new ≡ Some body
  pub owners : (number : ℕ) (users : Bool) → owner_at number rows ≡ Some users → owner_at number new ≡ Some users

-- where each number that a row has finds the same
pub keeps_same : (rows new : List Row) → ((number : ℕ) → body_at number new ≡ body_at number rows)
    → ((number : ℕ) → owner_at number new ≡ owner_at number rows) → KeepBodies rows new
keeps_same rows new bodies owners = record {
  bodies = λ number body e. bodies number ∙ e;
  owners = λ number users e. owners number ∙ e;
}

pub keeps_itself : (rows : List Row) → KeepBodies rows rows
keeps_itself rows = keeps_same rows rows (λ number. refl) (λ number. refl)

empty : {X : Type 0} (xs : List X) → length xs ≡ 0 → xs ≡ []
empty [] e = refl
empty (x ∷ xs) e = absurd (omega (arith, e))

there_below : {X : Type 0} (of : Row → X) (given number : ℕ) (rows : List Row) (x : X) → IsNumbered given rows
    → option_map of (row_of number rows) ≡ Some x → number < given
there_below of given number rows x numbered there = go (nat_lt number given) refl
  where
    go : (b : Bool) → nat_lt number given ≡ b → number < given
    go true e = ltb-true number given e
    go false e =
        let low = rw e at (numbered number) in
        let none = empty _ (omega (arith, low)) in
        let no : None ≡ Some x = sym
        (ap (option_map of)
        (row_is_first number rows ∙ ap (λ (xs : List Row). slice_get xs 0) none)) ∙ there in
        absurd cc

pub keep_bodies : (s t : State) → IsNumbered (given s) s.rows → KeepsMessages s t → KeepBodies s.rows t.rows
keep_bodies s t numbered kept = record {
  bodies = λ number body there. kept.bodies number (there_below (λ (row : Row). row.body) (given s) number s.rows body numbered there) ∙ there;
  owners = λ number users there. kept.owners number (there_below is_users (given s) number s.rows users numbered there) ∙ there;
}

-- a new message of the management's leaves the others alone
pub keeps_put : (given : ℕ) (rows : List Row) (body : List ℕ) (fate : Fate) → IsNumbered given rows → KeepBodies rows (put_ahead given rows body fate)
keeps_put given rows body fate numbered =
    let stay = messages_stay (λ f. false) fate (λ row. fate) given rows numbered in
    record {
      bodies = λ number other there. (stay.ahead_others_stay body number (there_below (λ (row : Row). row.body) given number rows other numbered there)).0 ∙ there;
      owners = λ number users there. (stay.ahead_others_stay body number (there_below is_users given number rows users numbered there)).1 ∙ there;
    }

module _ (rows new : List Row) (keep : KeepBodies rows new) where
  pub stand_kept : (messages : List Message) → StandIn rows messages → StandIn new messages
  stand_kept [] stand = stand
  stand_kept (message ∷ messages) stand = ((keep.bodies message.number message.body stand.0.0, keep.owners message.number message.users stand.0.1), stand_kept messages stand.1)

  pub bodies_kept : (ns : List ℕ) (bodies : List (List ℕ)) → AreBodies rows ns bodies → AreBodies new ns bodies
  bodies_kept [] [] are = are
  bodies_kept [] (body ∷ bodies) are = are
  bodies_kept (n ∷ ns) [] are = are
  bodies_kept (n ∷ ns) (body ∷ bodies) are = (keep.bodies n body are.0, bodies_kept ns bodies are.1)

  unit_kept : (c : Carried) (unit : SignalUnit) → IsUnitOf rows c unit → IsUnitOf new c unit
  unit_kept c (Fisu head) is = is
  unit_kept c (Lssu head status) is = is
  unit_kept c (Msu head body) is = (is.0, is.1, is.2, keep.bodies is.0 body.items is.3)

  pub units_kept : (cs : List Carried) (units : List SignalUnit) → AreUnits rows cs units → AreUnits new cs units
  units_kept [] [] are = are
  units_kept [] (unit ∷ units) are = are
  units_kept (c ∷ cs) [] are = are
  units_kept (c ∷ cs) (unit ∷ units) are = (unit_kept c unit are.0, units_kept cs units are.1)

module _ (rows : List Row) where
  pub stand_joined : (xs ys : List Message) → StandIn rows xs → StandIn rows ys → StandIn rows (xs ++ ys)
  stand_joined [] ys a b = b
  stand_joined (x ∷ xs) ys a b = (a.0, stand_joined xs ys a.1 b)

  pub bodies_joined : (ns ms : List ℕ) (bs cs : List (List ℕ)) → AreBodies rows ns bs → AreBodies rows ms cs → AreBodies rows (ns ++ ms) (bs ++ cs)
  bodies_joined [] ms [] cs a b = b
  bodies_joined [] ms (x ∷ bs) cs a b = absurd a
  bodies_joined (n ∷ ns) ms [] cs a b = absurd a
  bodies_joined (n ∷ ns) ms (x ∷ bs) cs a b = (a.0, bodies_joined ns ms bs cs a.1 b)

  pub units_joined : (cs ds : List Carried) (us vs : List SignalUnit) → AreUnits rows cs us → AreUnits rows ds vs → AreUnits rows (cs ++ ds) (us ++ vs)
  units_joined [] ds [] vs a b = b
  units_joined [] ds (u ∷ us) vs a b = absurd a
  units_joined (c ∷ cs) ds [] vs a b = absurd a
  units_joined (c ∷ cs) ds (u ∷ us) vs a b = (a.0, units_joined cs ds us vs a.1 b)

  -- a unit that is under way at a place
  pub record Split (place : ℕ) (cs : List Carried) (us : List SignalUnit) : Type 0 where
    pub before : List Carried
    pub one : Carried
    pub behind : List Carried
    pub are : cs ≡ before ++ one ∷ behind
    pub rest : AreUnits rows (before ++ behind) (take place us ++ drop (suc place) us)

  pub split : (place : ℕ) (cs : List Carried) (us : List SignalUnit) → place < length us → AreUnits rows cs us → Split place cs us
  split place [] [] few are = absurd (omega arith)
  split place [] (u ∷ us) few are = absurd are
  split place (c ∷ cs) [] few are = absurd are
  split zero (c ∷ cs) (u ∷ us) few are = record { before = []; one = c; behind = cs; are = refl; rest = are.1 }
  split (suc place) (c ∷ cs) (u ∷ us) few are =
      let s = split place cs us (omega arith) are.1 in
      record { before = c ∷ s.before; one = s.one; behind = s.behind; are = ap (λ (xs : List Carried). c ∷ xs) s.are; rest = (are.0, s.rest) }

-- THE TIE. An end as its link sees it: its state, and what passed on the link.
pub record Side : Type 0 where
  pub state : State
  pub sent : List Message
  pub taken : List (List ℕ)

-- its numbers are those that the law's end sent and took
pub record Tells (rows far_rows : List Row) (e : LinkEnd Control) (sent : List Message) (taken : List (List ℕ)) : Type 0 where
  pub sent_is : e.sent ≡ map (λ message. message.number) sent
  pub stand : StandIn rows sent
  pub took_is : AreBodies far_rows e.took taken

-- while it isn't settled, its control, window and count are those of the law's end
pub record IsGoing (l : ℕ) (e : LinkEnd Control) (link : LinkState) (rows : List Row) : Type 0 where
  pub control : e.control ≡ link.control
  pub window : e.window ≡ window_of l link rows
  pub acked : e.acked ≡ link.acked

abbrev pub Goes : ℕ → LinkEnd Control → State → Type 0
Goes l e s = (link : LinkState) → slice_get s.links l ≡ Some link → has_phase_settled link.phase ≡ false → IsGoing l e link s.rows

-- it counts as many bodies as accepted as were taken
abbrev pub Counts : ℕ → State → List (List ℕ) → Type 0
Counts l s taken = (link : LinkState) → slice_get s.links l ≡ Some link → link.accepted ≡ length taken

pub record Ties (l : ℕ) (w : LinkWorld Control) (x y : Side) (there back_again : List SignalUnit) : Type 0 where
  pub near : Tells x.state.rows y.state.rows w.near x.sent x.taken
  pub far : Tells y.state.rows x.state.rows w.far y.sent y.taken
  pub near_goes : Goes l w.near x.state
  pub far_goes : Goes l w.far y.state
  pub near_counts : Counts l x.state x.taken
  pub far_counts : Counts l y.state y.taken
  pub out : AreUnits x.state.rows w.out there
  pub back : AreUnits y.state.rows w.back back_again

pub record Tied (l : ℕ) (mx my : Method) (x y : Side) (out back : List SignalUnit) : Type 0 where
  pub profile : Profile
  pub world : LinkWorld Control
  pub run : Run rules profile (start_of mx) (start_of my) world
  pub ties : Ties l world x y out back

-- seen from the other end
run_back : (p : Profile) (near far : Control) (w : LinkWorld Control) → Run rules p near far w → Run rules p far near (flip w)
run_back p near far _ (begins w a b out back) = begins (flip w) b a back out
run_back p near far _ (steps old new r s) = steps_far (flip old) (flip new) (run_back p near far old r) s
run_back p near far _ (steps_far old new r s) = steps (flip old) (flip new) (run_back p near far old r) s

pub turned : (l : ℕ) (mx my : Method) (x y : Side) (out back : List SignalUnit) → Tied l mx my x y out back → Tied l my mx y x back out
turned l mx my x y out back t = record {
  profile = t.profile;
  world = flip t.world;
  run = run_back t.profile (start_of mx) (start_of my) t.world t.run;
  ties = record {
    near = t.ties.far;
    far = t.ties.near;
    near_goes = t.ties.far_goes;
    far_goes = t.ties.near_goes;
    near_counts = t.ties.far_counts;
    far_counts = t.ties.near_counts;
    out = t.ties.back;
    back = t.ties.out;
  };
}

pub numbers_append : (xs ys : List Row) → numbers (xs ++ ys) ≡ numbers xs ++ numbers ys
numbers_append [] ys = refl
numbers_append (row ∷ xs) ys = ap (λ (ns : List ℕ). row.number ∷ ns) (numbers_append xs ys)

pub same_window : {p p' : Profile} {last last' : ℕ} {unacked unacked' unsent unsent' : List ℕ} → p ≡ p' → last ≡ last'
    → unacked ≡ unacked' → unsent ≡ unsent'
    → ◌≡◌ {A = WindowState} (record { profile = p; last = last; unacked = unacked; unsent = unsent; room = 0 })
    (record { profile = p'; last = last'; unacked = unacked'; unsent = unsent'; room = 0 })
same_window d a b c = rw (d, a, b, c) refl

-- A LINK THAT GOES ON: what waits is taken back, and what waits then is offered.
abbrev pub waiting : List ℕ → LinkWorld Control → LinkWorld Control
waiting unsent w = record w { near = record w.near { window = record w.near.window { unsent = unsent } } }

abbrev pub pushed : List ℕ → LinkWorld Control → LinkWorld Control
pushed more w = waiting (w.near.window.unsent ++ more) w

pub push_all : (p : Profile) (near far : Control) (more : List ℕ) (w : LinkWorld Control) → Run rules p near far w → Run rules p near far (pushed more w)
push_all p near far [] w r = rw (append-nil w.near.window.unsent) r
push_all p near far (n ∷ more) w r =
    let one = pushed (n ∷ []) w in
    let offer : Offers rules n w one =
    record {
      pushes = record { profile = refl; last = refl; unacked = refl; unsent = refl; room = omega arith };
      near = refl;
      far = refl;
      out = refl;
      back = refl;
    } in
    rw (append_assoc w.near.window.unsent (n ∷ []) more) at (push_all p near far more one (steps w one r (offers w one n offer)))

take_all_back : (p : Profile) (near far : Control) (n : ℕ) (unsent : List ℕ) (w : LinkWorld Control)
    → w.near.window.unsent ≡ unsent → Run rules p near far w → Run rules p near far (waiting (drop n unsent) w)
take_all_back p near far zero unsent w e r = rw (← e) r
take_all_back p near far (suc n) [] w e r = rw (← e) r
take_all_back p near far (suc n) (m ∷ unsent) w e r =
    let one = waiting unsent w in
    let back : TakesBack rules w one =
    record {
      withdraws = record {
        profile = refl;
        last = refl;
        unacked = refl;
        unsent = rw e refl;
        room = omega arith;
      };
      near = refl;
      far = refl;
      out = refl;
      back = refl;
    } in
    take_all_back p near far n unsent one refl (steps w one r (takes_back w one back))

anew : (p : Profile) (near far : Control) (new : List ℕ) (w : LinkWorld Control) → Run rules p near far w → Run rules p near far (waiting new w)
anew p near far new w r =
    let unsent = w.near.window.unsent in
    let none : drop (length unsent) unsent ≡ [] = drop_of_length-le unsent (omega arith) in
    let empty = rw none at (take_all_back p near far (length unsent) unsent w refl r) in
    push_all p near far new (waiting [] w) empty

module _ (l : ℕ) (mx my : Method) (x y : Side) (out back : List SignalUnit) (s : State)
    (keep : KeepBodies x.state.rows s.rows) (count : CountStays l x.state s) where
  abbrev moved : Side
  moved = record x { state = s }

  -- what the rows tell stays, where nothing was sent or taken
  tells_on : (unsent : List ℕ) (w : LinkWorld Control) → Ties l w x y out back → Goes l (waiting unsent w).near s → Ties l (waiting unsent w) moved y out back
  tells_on unsent w t goes = record {
    near = record { sent_is = t.near.sent_is; stand = stand_kept x.state.rows s.rows keep x.sent t.near.stand; took_is = t.near.took_is };
    far = record { sent_is = t.far.sent_is; stand = t.far.stand; took_is = bodies_kept x.state.rows s.rows keep w.far.took y.taken t.far.took_is };
    near_goes = goes;
    far_goes = t.far_goes;
    near_counts = λ after there. let k = count after there in k.2 ∙ t.near_counts k.0 k.1;
    far_counts = t.far_counts;
    out = units_kept x.state.rows s.rows keep w.out out t.out;
    back = t.back;
  }

  ends : (t : Tied l mx my x y out back) → (new : List ℕ) → Goes l (waiting new t.world).near s → Tied l mx my moved y out back
  ends t new goes = record {
    profile = t.profile;
    world = waiting new t.world;
    run = anew t.profile (start_of mx) (start_of my) new t.world t.run;
    ties = tells_on new t.world t.ties goes;
  }

  -- the first that waited wait no longer, and nothing else changes
  pub withdraws : (n : ℕ) → s.links ≡ x.state.links → unack l s.rows ≡ unack l x.state.rows
      → wait l s.rows ≡ drop n (wait l x.state.rows) → Tied l mx my x y out back → Tied l mx my moved y out back
  withdraws n links unacked waits t =
      let left = drop n t.world.near.window.unsent in
      record {
        profile = t.profile;
        world = waiting left t.world;
        run = take_all_back t.profile (start_of mx) (start_of my) n t.world.near.window.unsent t.world refl t.run;
        ties = tells_on left t.world t.ties (λ link found unsettled.
            let old = t.ties.near_goes link (ap (λ (ls : List LinkState). slice_get ls l) (sym links) ∙ found) unsettled in
            record {
              control = old.control;
              window = ap (λ (v : WindowState). record v { unsent = drop n v.unsent }) old.window ∙ same_window refl refl
                  (sym (ap numbers unacked))
                  (drop-map (λ (row : Row). row.number) n (wait l x.state.rows) ∙ sym (ap numbers waits));
              acked = old.acked;
            });
      }

  pub follows : Follows l x.state s → Tied l mx my x y out back → Tied l mx my moved y out back
  follows f t = go (slice_get s.links l) refl
    where
      at : (link : LinkState) → slice_get s.links l ≡ Some link → (b : Bool) → has_phase_settled link.phase ≡ b → Tied l mx my moved y out back
      at link there true e = ends t [] (λ other found unsettled.
          let same : other ≡ link = same_Some other link (sym found ∙ there) in
          let no : true ≡ false = sym e ∙ sym (ap (λ (k : LinkState). has_phase_settled k.phase) same) ∙ unsettled in
          absurd cc)
      at link there false e =
          let g = f link there e in
          let old = t.ties.near_goes g.link g.there g.unsettled in
          ends t (numbers (wait l s.rows)) (λ other found unsettled.
          let same : link ≡ other = same_Some link other (sym there ∙ found) in
          subst (λ (k : LinkState). IsGoing l (waiting (numbers (wait l s.rows)) t.world).near k s.rows) same (record {
            control = old.control ∙ sym g.control;
            window = ap (λ (v : WindowState). record v { unsent = numbers (wait l s.rows) }) old.window ∙ same_window
                (sym g.profile)
                (rw (← g.profile) (ap (λ (k : ℕ). (k + fsn_before_first link.profile) % fsn_count link.profile) (sym g.acked)))
                (sym (ap numbers g.unack_same)) refl;
            acked = old.acked ∙ sym g.acked;
          }))

      go : (o : Option LinkState) → slice_get s.links l ≡ o → Tied l mx my moved y out back
      go None e = ends t [] (λ other found unsettled. absurd (let no : None ≡ Some other = sym e ∙ found in cc))
      go (Some link) e = at link e (has_phase_settled link.phase) refl

-- A UNIT THAT IS LOST
pub lost : (l : ℕ) (mx my : Method) (x y : Side) (out back : List SignalUnit) (place : ℕ) → place < length out
    → Tied l mx my x y out back → Tied l mx my x y (take place out ++ drop (suc place) out) back
lost l mx my x y out back place few t =
    let w = t.world in
    let s = split x.state.rows place w.out out few t.ties.out in
    let new = record w { out = s.before ++ s.behind } in
    let loss : Loses rules s.before s.one s.behind w new = record { near = refl; far = refl; was = s.are; out = refl; back = refl } in
    record {
      profile = t.profile;
      world = new;
      run = steps w new t.run (loses w new s.before s.one s.behind loss);
      ties = record {
        near = t.ties.near;
        far = t.ties.far;
        near_goes = t.ties.near_goes;
        far_goes = t.ties.far_goes;
        near_counts = t.ties.near_counts;
        far_counts = t.ties.far_counts;
        out = s.rest;
        back = t.ties.back;
      };
    }
