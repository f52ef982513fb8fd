-- What programs of Structured Text mean over points: which texts are programs, how many words they have, what a
-- download keeps of them, and what their scans do. Own rule.
use Rattle.std.specs.Prelude.{List}
use Rattle.tri_base.specs.declared.point.Point.{Point}
use Rattle.tag_layout.specs.Layout.{total_words, first_words}
use Rattle.download_change.specs.Renames.{unknown_name_of, name_twice_of}
use Rattle.download_change.specs.Kept.{changed_type_of, carried_words}
use Rattle.engine_face.specs.Meaning.{Meaning}
use Rattle.st_build.specs.Building.{program_of, refusal_in, tags_at}
use Rattle.st_build.specs.Running.{running, scanned_by, stored_by}

-- The meaning of programs over points.
abbrev pub structured_text : List Point → Meaning
structured_text points = record {
  builds = λ text. refusal_in (program_of points text);
  unknown_name = λ old d. unknown_name_of (tags_at points old) (tags_at points d.text) d.renames;
  name_twice = λ old d. name_twice_of d.renames;
  changed_kind = λ old d. changed_type_of (tags_at points old) (tags_at points d.text) d.renames;
  word_count = λ text. total_words (tags_at points text);
  first = λ text. first_words (tags_at points text);
  carried = λ old d words. carried_words (tags_at points old) (tags_at points d.text) d.renames
      (first_words (tags_at points d.text)) words;
  scanned = λ text words inputs dt. scanned_by points (running points (program_of points text)) words inputs dt;
  stored = λ text words inputs dt. stored_by points (running points (program_of points text)) words inputs dt;
}
