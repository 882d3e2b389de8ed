use Rattle.l2_bits.proofs.TextTableLemmas.{text_read}
use Rattle.l2_bits.proofs.stuffing.text_of.Goals as goal

pub returns-clause-text : goal.returns-clause-text
returns-clause-text c = (text_read c.args.run c.args.half c.requires.few c.requires.half).text

pub returns-clause-few : goal.returns-clause-few
returns-clause-few c = (text_read c.args.run c.args.half c.requires.few c.requires.half).few

pub returns-clause-fits : goal.returns-clause-fits
returns-clause-fits c = (text_read c.args.run c.args.half c.requires.few c.requires.half).fits

pub returns-clause-most : goal.returns-clause-most
returns-clause-most c = (text_read c.args.run c.args.half c.requires.few c.requires.half).most

pub returns-clause-bound : goal.returns-clause-bound
returns-clause-bound c = (text_read c.args.run c.args.half c.requires.few c.requires.half).bound
