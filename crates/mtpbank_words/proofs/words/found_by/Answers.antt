use Rattle.std.proofs.Common.{◌≡◌, refl, true, map, subst, List, Option}
use Rattle.clap.specs.Words.{App, HasMatchesOf, Row, Text, subcommand_of, takes}
use Rattle.clap.specs.Values.{kind_of}
use Rattle.clap.specs.declared.error.kind.ErrorKind.TheVariants.{InvalidValue, OutOfMemory}
use Rattle.mtpbank_words.specs.declared.run_words.Unasked.{Unasked}
use Rattle.mtpbank_words.specs.CommandLine.{IsFound, IsNotFound, program}
use Rattle.mtpbank_words.proofs.Refusals.{not_taken, unnamed}
use Rattle.mtpbank_words.proofs.words.found_by.Goals as goal

pub returns-clause-refused : goal.returns-clause-refused
returns-clause-refused g c =
    let words = map g.S.AsStr.text c.args.words.now in
    not_taken c.fault_of.result words (kind_of c.in-Err.error) c.fault_of.ensures.kind c.fault_of.ensures.wrong
    (subst (λ (a : App). takes a words ≡ true → kind_of c.in-Err.error ≡ OutOfMemory) c.requires c.in-Err.ensures.passes)

pub returns-in-Ok-named-clause-asked : goal.returns-in-Ok-named-clause-asked
returns-in-Ok-named-clause-asked g c =
    let words = map g.S.AsStr.text c.args.words.now in
    let found = (subst (λ (a : App). HasMatchesOf a words c.in-Ok.matches) c.requires c.in-Ok.ensures.ok.2 refl).1 in
    subst (λ (it : Option (Text × List Row)). IsFound c.in-Ok-named.asked it) found c.in-Ok-named.ensures

pub returns-in-Err-Value-clause-refused : goal.returns-in-Err-Value-clause-refused
returns-in-Err-Value-clause-refused g c =
    let words = map g.S.AsStr.text c.args.words.now in
    let found = (subst (λ (a : App). HasMatchesOf a words c.in-Ok.matches) c.requires c.in-Ok.ensures.ok.2 refl).1 in
    unnamed c.nothing_asked.result words InvalidValue c.nothing_asked.ensures
    (subst (λ (why : Unasked). IsNotFound why (subcommand_of program words)) c.in-Err-Value.field-0-is
    (subst (λ (it : Option (Text × List Row)). IsNotFound c.in-Err-Value.field-0 it) found c.in-Err-Value.ensures))

pub returns-in-Ok-clause-refused : goal.returns-in-Ok-clause-refused
returns-in-Ok-clause-refused g c =
    let words = map g.S.AsStr.text c.args.words.now in
    let found = (subst (λ (a : App). HasMatchesOf a words c.in-Ok.matches) c.requires c.in-Ok.ensures.ok.2 refl).1 in
    subst (λ (why : Unasked). IsNotFound why (subcommand_of program words)) c.in-Err-Link.field-0-is
    (subst (λ (it : Option (Text × List Row)). IsNotFound c.in-Err-Link.field-0 it) found c.in-Err-Link.ensures)
