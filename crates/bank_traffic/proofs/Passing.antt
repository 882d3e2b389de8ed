-- An octet more is put into a line with noise.
use Rattle.std.proofs.Common.{refl, ◌≡◌, ◌∙◌, ap, sym, ℕ, List, [], ◌∷◌, ◌++◌}
use Rattle.std.proofs.lemmas.List.{append_assoc, append-nil}
use Rattle.bank_traffic.specs.declared.noise.Noise.{Noise}
use Rattle.bank_traffic.specs.Noise.{behind, noise_behind, passed, passed_all}

noise_more : (noise : Noise) (octets : List ℕ) (octet : ℕ) → noise_behind noise (octets ++ octet ∷ []) ≡ behind (noise_behind noise octets)
noise_more noise [] octet = refl
noise_more noise (o ∷ octets) octet = noise_more (behind noise) octets octet

passed_more : (noise : Noise) (octets : List ℕ) (octet : ℕ) → passed_all noise (octets ++ octet ∷ []) ≡ passed_all noise octets ++ passed (noise_behind noise octets) octet
passed_more noise [] octet = append-nil (passed noise octet)
passed_more noise (o ∷ octets) octet =
    ap (λ (rest : List ℕ). passed noise o ++ rest) (passed_more (behind noise) octets octet)
    ∙ sym (append_assoc (passed noise o) (passed_all (behind noise) octets) (passed (noise_behind (behind noise) octets) octet))

pub goes_behind : (first noise noise' : Noise) (put put' : List ℕ) (octet : ℕ) → noise ≡ noise_behind first put → put' ≡ put ++ octet ∷ [] → noise' ≡ behind noise → noise' ≡ noise_behind first put'
goes_behind first noise noise' put put' octet was more next =
    next ∙ ap behind was ∙ sym (noise_more first put octet) ∙ ap (noise_behind first) (sym more)

pub passes_more : (first noise : Noise) (put put' out out' its : List ℕ) (octet : ℕ) → noise ≡ noise_behind first put → put' ≡ put ++ octet ∷ [] → out ≡ passed_all first put → out' ≡ out ++ its → its ≡ passed noise octet
    → out' ≡ passed_all first put'
passes_more first noise put put' out out' its octet was more so added is =
    added ∙ ap (λ (xs : List ℕ). xs ++ its) so ∙ ap (λ (xs : List ℕ). passed_all first put ++ xs) is ∙ ap (λ (n : Noise). passed_all first put ++ passed n octet) was
    ∙ sym (passed_more first put octet) ∙ ap (passed_all first) (sym more)
