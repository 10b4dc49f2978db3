use Rattle.printed.proofs.overview.SizesTextDisplay.fmt.Goals as goal

-- What is written is the text, once the word for quality is put in; the search does not reach so
-- far.
pub returns-clause-writes : goal.returns-clause-writes
returns-clause-writes g c = rw c.quality_word-quality.ensures at c.write.ensures.writes
