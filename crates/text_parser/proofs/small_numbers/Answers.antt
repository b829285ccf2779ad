use Rattle.text_parser.proofs.Fits as fits
use Rattle.text_parser.proofs.small_numbers.Goals as goal

pub returns : goal.returns
returns c = fits.numbers-fit
