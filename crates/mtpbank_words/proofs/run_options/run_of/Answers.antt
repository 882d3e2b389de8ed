use Rattle.clap.specs.Words.{found_of, rows_of}
use Rattle.mtpbank_words.proofs.Options.{looked_at}
use Rattle.mtpbank_words.proofs.run_options.run_of.Goals as goal

-- src/run_options.rt
pub returns-in-Ok : goal.returns-in-Ok
returns-in-Ok c = looked_at c.in-Ok.run' (rows_of (found_of c.args.found.now)) c.with_link.result c.in-Ok.ensures c.with_link.ensures
