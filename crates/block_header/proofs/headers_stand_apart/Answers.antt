use Rattle.block_header.proofs.HeaderLaws.{reads_back, keeps_others, keeps_words, keeps_length}
use Rattle.block_header.proofs.headers_stand_apart.Goals as goal

pub returns : goal.returns
returns c = record { read_back = reads_back; others = keeps_others; words = keeps_words; length = keeps_length }
