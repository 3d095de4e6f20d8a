use Rattle.linear.specs.declared.ean.NumberSet.TheVariants.{A, B, C}
use Rattle.linear.proofs.Laws.TableLaws.{digits_of, digits_of-pattern_of}
use Rattle.linear.proofs.ean.modules_of.Goals as goal

pub returns-in-A : goal.returns-in-A
unfolding digits_of
returns-in-A c = digits_of-pattern_of c.args.set A _ c.args.digit _ c.in-A.is c.from-index.ensures c.requires.digit

pub returns-in-B : goal.returns-in-B
unfolding digits_of
returns-in-B c = digits_of-pattern_of c.args.set B _ c.args.digit _ c.in-B.is c.from-index.ensures c.requires.digit

pub returns-in-C : goal.returns-in-C
unfolding digits_of
returns-in-C c = digits_of-pattern_of c.args.set C _ c.args.digit _ c.in-C.is c.from-index.ensures c.requires.digit
