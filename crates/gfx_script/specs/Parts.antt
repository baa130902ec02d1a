-- A script, by the parts that it is made of.
use Rattle.gfx_script.specs.declared.script.ScriptParts.{ScriptParts}
use Rattle.gfx_script.specs.Scripted.{Script}

-- the parts of a script, as contracts see them
abbrev pub parts_seen : ScriptParts → Script
parts_seen parts = record {
  window = parts.window;
  offers = parts.offers;
  setting = parts.setting;
  differences = parts.differences;
  pictures = parts.pictures.items;
  small = parts.small;
  thin = parts.thin;
  entropy = parts.entropy;
  start = parts.start.items;
  steps = parts.steps.items;
  turns = parts.turns.items;
}
