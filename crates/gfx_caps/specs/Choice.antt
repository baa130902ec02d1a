-- Which version a server confirms ([MS-RDPEGFX] 2.2.2.18 and 2.2.2.19). That it is the first set of the
-- highest version is this project's own rule.
use Rattle.std.specs.Prelude.{ℕ, ◌/◌, ◌%◌, ◌+◌, ◌==◌, Bool, ◌&&◌, ◌||◌, not, bit_and, List, length, Option, Result, if◌then◌else◌}
use Rattle.std.specs.List.{find}
use Rattle.std.specs.Option.{option_map, option_or, ok_or}
use Rattle.std.specs.Int.{w32}
use Rattle.gfx_base.specs.Field.{number_at}
use Rattle.gfx_base.specs.declared.refusal.Refusal.{Refusal}
use Rattle.gfx_base.specs.declared.refusal.Refusal.TheVariants.{CapsVersion}
use Rattle.gfx_caps.specs.declared.choice.Chosen.{Chosen}
use Rattle.gfx_caps.specs.declared.sets.CapsSet.{CapsSet}
use Rattle.gfx_caps.specs.declared.versions.TheConstants.{VERSION_8, VERSION_8_1, VERSION_10, FLAGS_SIZE, THIN_CLIENT, SMALL_CACHE, AVC_DISABLED}

-- a word of flags has a flag, which is a power of two
abbrev pub has_flag : ℕ → ℕ → Bool
has_flag flags flag = flags / flag % 2 == 1

-- the word of flags of a set
abbrev pub flags_of : CapsSet → ℕ
flags_of set = number_at w32 set.body 0

-- a client that is thin, or one that isn't, may have this version: version 10 is for no thin client
abbrev pub allows : ℕ → Bool → Bool
allows version thin = not (version == VERSION_10 && thin)

-- the set offers this version with a word of flags, and for a thin client only where the version allows it
abbrev pub qualifies : ℕ → CapsSet → Bool
qualifies version set =
    set.version == version && length set.body == FLAGS_SIZE && allows version (has_flag (flags_of set) THIN_CLIENT)

-- the flags that are kept of a version
abbrev pub kept_flags : ℕ → ℕ
kept_flags version = if version == VERSION_10 then SMALL_CACHE + AVC_DISABLED else SMALL_CACHE + THIN_CLIENT

-- flags bind the client to the small limits on bitmaps: they ask for the small cache, or the client is thin
abbrev pub binds_small : ℕ → Bool
binds_small flags = has_flag flags SMALL_CACHE || has_flag flags THIN_CLIENT

-- what is confirmed of a set
abbrev pub confirmed : ℕ → CapsSet → Chosen
confirmed version set = record { version = version; flags = bit_and (flags_of set) (kept_flags version) }

-- the first set that qualifies with this version
abbrev pub first_of : ℕ → List CapsSet → Option Chosen
first_of version sets = option_map (confirmed version) (find (qualifies version) sets)

-- the first set of the highest version that qualifies
unfoldable pub choice : List CapsSet → Result Chosen Refusal
choice sets = ok_or (option_or (first_of VERSION_10 sets) (option_or (first_of VERSION_8_1 sets) (first_of VERSION_8 sets))) CapsVersion
