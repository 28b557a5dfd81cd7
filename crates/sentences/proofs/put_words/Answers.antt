-- `sentences::put_words` meets its contract: the line is found and put, from the text of them all. Assumes nothing.
use Rattle.sentences.specs.Sentences.{sentences}
use Rattle.sentences.proofs.SentencesLaws.{words_line_law}
use Rattle.sentences.proofs.put_words.Goals as goal

pub returns-clause-put : goal.returns-clause-put
unfolding sentences
returns-clause-put c = rw (← words_line_law c.args.about) (rw c.line_at.ensures at c.put_filled.ensures)
