-- Each bench example by computing both sides; that of octave 0, which is about all layouts that have it, by questions 1 and 2.
use mathlib.Core.Path.{refl, sym}
use Rattle.genchain.proofs.Calls.{generator_no_octave}
use Rattle.mos_layers.specs.Layers.{layer_sizes}
use Rattle.layout.specs.Answers.{get_mos, get_scale_name, get_note_name}
use Rattle.layout.specs.Examples.{beginning}
use Rattle.layout.proofs.Finding.{ask_refused}
use Rattle.pergen.specs.Answers.{get_accidentals}
use Rattle.layout_lamps.specs.Answers.{get_strip}
use Rattle.layout_lamps.specs.BenchExamples.{Holds, no_octave, BenchExamplesHold}

without_octave : Holds (no_octave 2)
without_octave code tritave start h = sym (ask_refused (beginning start code 0 tritave) 2 (generator_no_octave code 0 tritave h refl))

pub bench_examples_hold : BenchExamplesHold
unfolding get_mos get_scale_name get_note_name layer_sizes get_accidentals get_strip
bench_examples_hold = (refl, (refl, (refl, (refl, (refl, (refl, (refl, (without_octave, (refl, (refl, (refl, (refl, (refl, (refl, (refl, (refl, tt))))))))))))))))
