use Rattle.layout_kbm.proofs.Natural.{natural_keys_read_back, natural_keys_are_exact, natural_is_its_layer}
use Rattle.kbm_text.proofs.ReadBack.{reads_back}
use Rattle.layout_kbm.proofs.KeysRead.{keys_are_the_numbers}
use Rattle.kbm_text.proofs.Comments.{comments_skipped}
use Rattle.kbm_text.proofs.Whole.{only_lines_count, lines_are_the_text}
use Rattle.claims.proofs.w_210.Goals as goal

pub returns : goal.returns
returns c =
    (natural_keys_read_back, natural_keys_are_exact, natural_is_its_layer, reads_back, keys_are_the_numbers, comments_skipped, only_lines_count, lines_are_the_text)
