-- Tiles and messages as they are made.
use Rattle.std.proofs.Common.{◌≡◌, ◌∙◌, ap, sym, refl, subst, ℕ, ◌+◌, ◌-◌, ◌<◌, ◌≤◌, true, List, [], ◌∷◌, ◌++◌, map, min, take, drop, length, length-drop, length-take, get_or, Option, Some, None, IfSome, IsSome, arith}
use Rattle.std.proofs.lemmas.List.{drop-drop, get_or-drop, length-map, map_more}
use Rattle.std.specs.List.{AllByRecursion}
use Rattle.std.specs.Option.{option_map}
use Rattle.gfx_base.specs.declared.geometry.Cell.{Cell}
use Rattle.gfx_base.specs.declared.pixel.Pixel.{Pixel}
use Rattle.gfx_base.specs.declared.geometry.Rect.{Rect}
use Rattle.gfx_base.specs.Cells.{cell, cells_met, has_pixels}
use Rattle.gfx_base.specs.Geometry.{sized}
use Rattle.gfx_quant.specs.declared.setting.Setting.{Setting}
use Rattle.gfx_rlgr.specs.declared.mode.Mode.{Mode}
use Rattle.gfx_script.specs.declared.picture.Picture.{Picture as Drawing}
use Rattle.gfx_tile_make.specs.Source.{SourceTile, source_of}
use Rattle.gfx_prog_live.specs.Live.{following, in_groups, number_after, numbered}
use Rattle.gfx_prog_live.specs.Tiles.{cell_pixels}
use Rattle.gfx_prog_live.proofs.Groups.{Writing, all_written, drop_most, one_written, take_most}
use Rattle.gfx_prog_law.proofs.Apart.{Met, all-drop, all-take, each-met}
use Rattle.gfx_rfx_video.specs.declared.video_tile.VideoTile.{VideoTile}
use Rattle.gfx_rfx_video.specs.Message.{IsSent, video_data}
use Rattle.gfx_video_paint.specs.Inside.{HasSides, HasSome}
use Rattle.gfx_video_paint.specs.Video.{laid, video_payload, video_payloads, video_setting, video_tile, videos_after}
use Rattle.gfx_video_paint.proofs.Sent.{tiles-sent}

-- the tile of a square, as it is put together
pub tile_made : (own setting : Setting) (drawing : Drawing) (width height : ℕ) (square : Cell) (pixels : List Pixel) (made : SourceTile) → setting ≡ video_setting own → HasSides width height drawing
    → pixels ≡ cell_pixels drawing (sized width height) square → made ≡ source_of setting pixels
    → ◌≡◌ {A = VideoTile} (record { x = square.x; y = square.y; tile = made }) (video_tile own drawing square)
unfolding video_tile
tile_made own setting drawing width height square pixels made by sides drawn from =
    let there : pixels ≡ cell_pixels drawing (laid drawing) square = drawn ∙ (λ i. cell_pixels drawing (sized (sym sides.across i) (sym sides.down i)) square) in
    let tile : made ≡ source_of (video_setting own) (cell_pixels drawing (laid drawing) square) = from ∙ (λ i. source_of (by i) (there i)) in
    λ i. record { x = square.x; y = square.y; tile = tile i }

-- one square more
pub one_made : (setting : Setting) (drawing : Drawing) (squares : List Cell) (first place : ℕ) (square : Cell) (made : VideoTile) (tiles more : List VideoTile) → first ≤ place → place < length squares
    → square ≡ get_or squares place (cell 0 0) → made ≡ video_tile setting drawing square → more ≡ tiles ++ made ∷ []
    → tiles ≡ map (video_tile setting drawing) (take (place - first) (drop first squares)) → more ≡ map (video_tile setting drawing) (take (place + 1 - first) (drop first squares))
one_made setting drawing squares first place square made tiles more behind within at is put so_far =
    let found : get_or (drop first squares) (place - first) (cell 0 0) ≡ square =
    get_or-drop first squares (place - first) (cell 0 0) ∙ ap (λ k. get_or squares k (cell 0 0)) {x = first + (place - first)} {y = place} (omega (arith, behind)) ∙ sym at in
    let one : made ≡ video_tile setting drawing (get_or (drop first squares) (place - first) (cell 0 0)) = is ∙ ap (video_tile setting drawing) (sym found) in
    put
    ∙ (λ i. so_far i ++ one i ∷ [])
    ∙ sym (map_more (video_tile setting drawing) (drop first squares) (place - first) (cell 0 0) (omega (arith, behind, within, length-drop first squares)))
    ∙ ap (λ n. map (video_tile setting drawing) (take n (drop first squares))) {x = place - first + 1} {y = place + 1 - first} (omega (arith, behind))

-- ---- a group

-- a picture that is there
pub given : {P : Type 0} (found : Option Drawing) → IsSome found → ((drawing : Drawing) → found ≡ Some drawing → P) → P
given (Some drawing) some each = each drawing refl
given None some each = absurd cc

-- or is not
pub none_there : (found : Option Drawing) → found ≡ None → IsSome found → ⊥
none_there (Some drawing) none is = cc
none_there None none is = cc

-- what is said of each is said of it
pub if_there : (found : Option Drawing) (Q : Drawing → Type 0) → ((drawing : Drawing) → found ≡ Some drawing → Q drawing) → IfSome found Q
if_there (Some drawing) Q each = each drawing refl
if_there None Q each = tt

-- its sides
pub sides_there : (found : Option Drawing) (size : ℕ × ℕ) (drawing : Drawing) → option_map (λ (one : Drawing). (one.width, one.height)) found ≡ Some size → found ≡ Some drawing → HasSides size.0 size.1 drawing
sides_there found size drawing is there =
    let some : Some (drawing.width, drawing.height) ≡ Some size = ap (option_map (λ (one : Drawing). (one.width, one.height))) (sym there) ∙ is in
    let same : (drawing.width, drawing.height) ≡ size = cc in
    record { across = ap (λ p. p.0) same; down = ap (λ p. p.1) same }

-- and that it has pixels
pub some_there : (found : Option Drawing) (width height : ℕ) → IsSome found → IfSome found HasSome → ((drawing : Drawing) → found ≡ Some drawing → HasSides width height drawing) → has_pixels (sized width height) ≡ true
some_there (Some drawing) width height is some sides =
    let own : HasSides width height drawing = sides drawing refl in (λ i. has_pixels (sized (sym own.across i) (sym own.down i))) ∙ some
some_there None width height is some sides = absurd cc

-- as many tiles as a message takes
pub group_few : (own : Setting) (drawing : Drawing) (squares : List Cell) (first n : ℕ) (tiles : List VideoTile) → n ≤ 256 → tiles ≡ map (video_tile own drawing) (take n (drop first squares)) → length tiles ≤ 256
group_few own drawing squares first n tiles few is =
    omega (arith, few, ap length is, length-map (take n (drop first squares)) (video_tile own drawing), length-take n (drop first squares))

-- which stand in the picture's rectangle
pub group_sent : (own setting : Setting) (drawing : Drawing) (width height : ℕ) (squares : List Cell) (first n : ℕ) (tiles : List VideoTile) → setting ≡ video_setting own → HasSides width height drawing
    → has_pixels (sized width height) ≡ true → squares ≡ cells_met (sized width height) → tiles ≡ map (video_tile own drawing) (take n (drop first squares))
    → AllByRecursion (IsSent setting width height) tiles
group_sent own setting drawing width height squares first n tiles by sides some met is =
    let each : AllByRecursion (Met (sized width height)) squares = subst (AllByRecursion (Met (sized width height))) (sym met) (each-met (sized width height) some) in
    let laid_there : AllByRecursion (Met (laid drawing)) squares = subst (λ (r : Rect). AllByRecursion (Met r) squares) (λ i. sized (sym sides.across i) (sym sides.down i)) each in
    let group : List Cell = take n (drop first squares) in
    let sent : AllByRecursion (IsSent (video_setting own) width height) (map (video_tile own drawing) group) =
    tiles-sent own drawing width height (sym sides.across) (sym sides.down) group (all-take (Met (laid drawing)) n (drop first squares) (all-drop (Met (laid drawing)) first squares laid_there)) in
    subst (λ (s : Setting). AllByRecursion (IsSent s width height) tiles) (sym by) (subst (AllByRecursion (IsSent (video_setting own) width height)) (sym is) sent)

-- its message
message_made : (own setting : Setting) (mode : Mode) (drawing : Drawing) (width height : ℕ) (group : List Cell) (tiles : List VideoTile) (index : ℕ) (message : List ℕ) → setting ≡ video_setting own
    → HasSides width height drawing → tiles ≡ map (video_tile own drawing) group → message ≡ video_data setting mode width height tiles index → message ≡ video_payload own mode drawing group index
unfolding video_payload
message_made own setting mode drawing width height group tiles index message by sides is made =
    made ∙ (λ i. video_data (by i) mode (sym sides.across i) (sym sides.down i) (is i) index)

-- one message more
pub group_written : (own setting : Setting) (mode : Mode) (drawing : Drawing) (width height : ℕ) (squares : List Cell) (start first next count : ℕ) (all more : List (List ℕ)) (tiles : List VideoTile) (message : List ℕ)
    → start < length squares → count ≡ min (length squares - start) 256 → setting ≡ video_setting own → HasSides width height drawing
    → tiles ≡ map (video_tile own drawing) (take (start + count - start) (drop start squares)) → message ≡ video_data setting mode width height tiles next → more ≡ all ++ message ∷ []
    → Writing (video_payload own mode drawing) squares first (drop start squares) next all
    → Writing (video_payload own mode drawing) squares first (drop (start + count) squares) (following next) more
group_written own setting mode drawing width height squares start first next count all more tiles message within most by sides is made put before =
    let left : length (drop start squares) ≡ length squares - start = length-drop start squares in
    let as_many : start + count - start ≡ count = omega arith in
    one_written (video_payload own mode drawing) squares first (drop start squares) next all more (take count (drop start squares)) (drop (start + count) squares) message (omega (arith, within, left))
    (take_most count (drop start squares) (omega (arith, most, left)))
    (sym (drop-drop count start squares) ∙ drop_most count (drop start squares) (omega (arith, most, left)))
    (message_made own setting mode drawing width height (take count (drop start squares)) tiles next message by sides (is ∙ ap (λ n. map (video_tile own drawing) (take n (drop start squares))) as_many) made)
    put before

-- all
pub groups_written : (own : Setting) (mode : Mode) (drawing : Drawing) (width height : ℕ) (squares : List Cell) (start first next : ℕ) (all : List (List ℕ)) → length squares ≤ start → HasSides width height drawing
    → squares ≡ cells_met (sized width height) → Writing (video_payload own mode drawing) squares first (drop start squares) next all
    → (all ≡ video_payloads own mode drawing first) × (next ≡ videos_after drawing first)
groups_written own mode drawing width height squares start first next all past sides met written =
    let same : squares ≡ cells_met (laid drawing) = met ∙ (λ i. cells_met (sized (sym sides.across i) (sym sides.down i))) in
    let done = all_written (video_payload own mode drawing) squares first (drop start squares) next all (omega (arith, past, length-drop start squares)) written in
    (done.0 ∙ ap (λ l. numbered (video_payload own mode drawing) (in_groups l) first) same, done.1 ∙ ap (λ l. number_after l first) same)
