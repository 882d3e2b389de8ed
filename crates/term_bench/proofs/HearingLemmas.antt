-- Octets, one after another.
use Rattle.std.proofs.Common.{refl, sym, ap, subst, suc, ◌≡◌, ◌∙◌, ℕ, Bool, List, [], ◌∷◌, ◌++◌, take, Option, Result, Ok, Err, IfErr}
use Rattle.std.specs.Result.{IsErrAnd}
use Rattle.std.proofs.Math.Nat.{mod-eq_of_lt}
use Rattle.l2_bits.proofs.BitLemmas.{length-bits_of, number_of-bits_of}
use Rattle.l2_bits.specs.LineBits.{bits_of, number_of}
use Rattle.l2_units.specs.declared.unit.Unit.{Unit as SignalUnit}
use Rattle.term_bench.specs.Ends.{BenchState}
use Rattle.term_bench.specs.Waiting.{AsManyArePut, Hears, HearsAll, OctetsAreWhole}
use Rattle.term_bench.specs.declared.turn.Turn.{Turn}
use Rattle.term_bench.proofs.WaitingLemmas.{take_eight}

-- one octet more
pub hears_more : (link : ℕ) (octets : List ℕ) (octet : ℕ) (old mid new : BenchState) (made : List Turn) (turn : Turn)
    (unit : Option SignalUnit) → HearsAll link octets old made mid → Hears link (bits_of 8 octet) mid turn unit new
    → HearsAll link (octets ++ octet ∷ []) old (made ++ turn ∷ []) new
hears_more link [] octet old mid new [] turn unit none hears =
    (new, unit, subst (λ (b : BenchState). Hears link (bits_of 8 octet) b turn unit new) none hears, refl)
hears_more link [] octet old mid new (first ∷ made) turn unit none hears = absurd none
hears_more link (first ∷ octets) octet old mid new [] turn unit all hears = absurd all
hears_more link (first ∷ octets) octet old mid new (one ∷ made) turn unit all hears =
    (all.0, all.1, all.2, hears_more link octets octet all.0 mid new made turn unit all.3 hears)

pub as_many : AsManyArePut
as_many link [] old new [] all = refl
as_many link [] old new (turn ∷ turns) all = absurd all
as_many link (octet ∷ octets) old new [] all = absurd all
as_many link (octet ∷ octets) old new (turn ∷ turns) all = ap suc (as_many link octets all.0 new turns all.3)

pub whole_alone : OctetsAreWhole
whole_alone link octet whole old new fits completes none =
    completes.octet_is ∙ ap (λ (bits : List Bool). number_of (take 8 (bits ++ bits_of 8 octet))) none
    ∙ ap (λ (bits : List Bool). number_of bits) (take_eight (bits_of 8 octet) (length-bits_of 8 octet))
    ∙ number_of-bits_of 8 octet ∙ mod-eq_of_lt fits

-- a fault that is handed on
pub told_on : {R E : Type 0} (result : Result R E) (fault : E) (P : E → Type 0) → IsErrAnd result (λ told. told ≡ fault) → P fault
    → IfErr result P
told_on (Ok done) fault P is holds = absurd is
told_on (Err told) fault P is holds = subst (λ e. P e) (sym is) holds
