use Rattle.text_units.specs.DecodeExplaining.{IsExplainedDecodeText}
use Rattle.text_units.specs.Decoding.{IsDecodeText}
use Rattle.text_calls.specs.declared.running.TextFault.TheVariants.{Decode as DecodeFault, ExplainedDecode as ExplainedDecodeFault}
use Rattle.text_calls.specs.Running.{profile_of}
use Rattle.text_calls.proofs.RunLemmas.{one_fault, prints_all}
use Rattle.text_calls.proofs.running.run_decode.Goals as goal

pub returns-then-explains-clause-text : goal.returns-then-explains-clause-text
returns-then-explains-clause-text g c =
    rw (one_fault ExplainedDecodeFault _ (λ fault given e. e) c.decode_explained.result c.of_any.result c.of_any.ensures, c.if-explains.true)
    (prints_all (IsExplainedDecodeText (profile_of c.args.wide)) ExplainedDecodeFault c.decode_explained.result _ _ _
    (rw (← c.profile_of-profile.ensures) c.decode_explained.ensures.text))

pub returns-clause-text : goal.returns-clause-text
returns-clause-text g c =
    rw (one_fault DecodeFault _ (λ fault given e. e) c.decode.result c.of_any-2.result c.of_any-2.ensures, c.if-explains.false)
    (prints_all (IsDecodeText (profile_of c.args.wide)) DecodeFault c.decode.result _ _ _
    (rw (← c.profile_of-profile.ensures) c.decode.ensures.text))
