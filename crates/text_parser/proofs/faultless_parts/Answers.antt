use Rattle.text_parser.proofs.Fits as fits
use Rattle.text_parser.proofs.faultless_parts.Goals as goal

pub returns : goal.returns
returns c = fits.faultless-parts
