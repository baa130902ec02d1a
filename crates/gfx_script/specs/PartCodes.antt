-- How drafts, and scripts under way, are coded, as the values of models have to be.
use mathlib.Core.Bool.{Bool-set, true, false}
use mathlib.Core.Logic.{inl, inr}
use base.Stored.{coded_sub, coded_unit}
use Rattle.std.specs.Prelude.{◌≡◌, ◌⊎◌, refl, ℕ, Bool, IsTrue, List, Option, Some, None}
use Rattle.std.specs.Coded.{Coded, code_by, coded×, coded⊎, coded_ℕ, coded_bool, coded_list, coded_option}
use Rattle.gfx_base.specs.Codes.{format_code, pixel_code, rect_code}
use Rattle.gfx_base.specs.declared.format.Format.{Format}
use Rattle.gfx_base.specs.declared.geometry.Point.{Point}
use Rattle.gfx_base.specs.declared.geometry.Rect.{Rect}
use Rattle.gfx_base.specs.declared.pixel.Pixel.{Pixel}
use Rattle.gfx_caps.specs.declared.offer.Offer.{Offer}
use Rattle.gfx_dwt.specs.declared.layout.Transform.{Transform}
use Rattle.gfx_dwt.specs.declared.layout.Transform.TheVariants as transforms
use Rattle.gfx_quant.specs.declared.quant.Quant.{Quant}
use Rattle.gfx_quant.specs.declared.rounding.Rounding.{Rounding}
use Rattle.gfx_quant.specs.declared.rounding.Rounding.TheVariants as roundings
use Rattle.gfx_quant.specs.declared.setting.Level.{Level}
use Rattle.gfx_quant.specs.declared.setting.Setting.{Setting}
use Rattle.gfx_quant.specs.Quant.{are_nibbles}
use Rattle.gfx_script.specs.declared.head.HeadParts.{HeadParts}
use Rattle.gfx_script.specs.declared.picture.Pattern.{Pattern}
use Rattle.gfx_script.specs.declared.picture.Pattern.TheVariants as patterns
use Rattle.gfx_script.specs.declared.picture.Picture.{Picture}
use Rattle.gfx_script.specs.declared.step.Entropy.{Entropy}
use Rattle.gfx_script.specs.declared.step.Entropy.TheVariants as entropies
use Rattle.gfx_script.specs.declared.step.Kind.{Kind}
use Rattle.gfx_script.specs.declared.step.Kind.TheVariants as kinds
use Rattle.gfx_script.specs.declared.step.Step.{Step}
use Rattle.gfx_script.specs.declared.step.Step.TheVariants.{Surface, Delete, Reset, Map, Fill, Copy, Keep, Show, Forget, Paint, Improve, Frame}
use Rattle.gfx_script.specs.declared.turn.Turn.{Turn}
use Rattle.gfx_script.specs.declared.turn.Turn.TheVariants as turns
use Rattle.gfx_script.specs.Building.{Building}
use Rattle.gfx_script.specs.Checks.{Held}
use Rattle.gfx_script.specs.Codes.{held_code}
use Rattle.gfx_script.specs.Drafts.{Draft}

-- ---- geometry

abbrev point_code : Coded Point
point_code = code_by (ℕ × ℕ) (coded× coded_ℕ coded_ℕ) (λ p. (p.x, p.y)) (λ t. record { x = t.0; y = t.1 }) (λ _. refl)

-- ---- pictures

-- a pattern of pixels, one of a number, or one of three
abbrev Patterns : Type 0
Patterns = Pixel ⊎ (List Pixel ⊎ (ℕ ⊎ Option Bool))

abbrev pattern_parts : Pattern → Patterns
pattern_parts (patterns.Solid colour) = inl colour
pattern_parts (patterns.Hex pixels) = inr (inl pixels)
pattern_parts (patterns.Noise seed) = inr (inr (inl seed))
pattern_parts patterns.Ramp = inr (inr (inr None))
pattern_parts patterns.Text = inr (inr (inr (Some true)))
pattern_parts patterns.Desktop = inr (inr (inr (Some false)))

abbrev pattern_from : Patterns → Pattern
pattern_from (inl colour) = patterns.Solid colour
pattern_from (inr (inl pixels)) = patterns.Hex pixels
pattern_from (inr (inr (inl seed))) = patterns.Noise seed
pattern_from (inr (inr (inr None))) = patterns.Ramp
pattern_from (inr (inr (inr (Some true)))) = patterns.Text
pattern_from (inr (inr (inr (Some false)))) = patterns.Desktop

abbrev same_pattern : (pattern : Pattern) → pattern_from (pattern_parts pattern) ≡ pattern
same_pattern (patterns.Solid colour) = refl
same_pattern (patterns.Hex pixels) = refl
same_pattern (patterns.Noise seed) = refl
same_pattern patterns.Ramp = refl
same_pattern patterns.Text = refl
same_pattern patterns.Desktop = refl

abbrev pattern_code : Coded Pattern
pattern_code =
    code_by Patterns (coded⊎ pixel_code (coded⊎ (coded_list pixel_code) (coded⊎ coded_ℕ (coded_option coded_bool)))) pattern_parts pattern_from same_pattern

abbrev drawn_code : Coded Picture
drawn_code =
    code_by (ℕ × (ℕ × Pattern)) (coded× coded_ℕ (coded× coded_ℕ pattern_code))
    (λ p. (p.width, (p.height, p.pattern))) (λ t. record { width = t.0; height = t.1.0; pattern = t.1.1 }) (λ _. refl)

-- ---- steps

-- a kind as three truth values
abbrev Bits : Type 0
Bits = Bool × (Bool × Bool)

abbrev kind_bits : Kind → Bits
kind_bits kinds.Raw = (false, (false, false))
kind_bits kinds.Residual = (false, (false, true))
kind_bits kinds.Bands = (false, (true, false))
kind_bits kinds.Palette = (false, (true, true))
kind_bits kinds.Plain = (true, (false, false))
kind_bits kinds.Progressive = (true, (false, true))
kind_bits kinds.Video = (true, (true, false))

abbrev kind_from : Bits → Kind
kind_from (false, (false, false)) = kinds.Raw
kind_from (false, (false, true)) = kinds.Residual
kind_from (false, (true, false)) = kinds.Bands
kind_from (false, (true, true)) = kinds.Palette
kind_from (true, (false, false)) = kinds.Plain
kind_from (true, (false, true)) = kinds.Progressive
kind_from (true, (true, last)) = kinds.Video

abbrev same_kind : (kind : Kind) → kind_from (kind_bits kind) ≡ kind
same_kind kinds.Raw = refl
same_kind kinds.Residual = refl
same_kind kinds.Bands = refl
same_kind kinds.Palette = refl
same_kind kinds.Plain = refl
same_kind kinds.Progressive = refl
same_kind kinds.Video = refl

abbrev kind_code : Coded Kind
kind_code = code_by Bits (coded× coded_bool (coded× coded_bool coded_bool)) kind_bits kind_from same_kind

-- the steps that draw on rectangles, and the others
abbrev Drawing : Type 0
Drawing =
    (ℕ × (Pixel × List Rect)) ⊎ ((ℕ × (ℕ × (Rect × List Point))) ⊎ ((ℕ × (ℕ × Rect)) ⊎ ((ℕ × (ℕ × List Point)) ⊎ (ℕ × (ℕ × (Point × (Option Kind × Option ℕ)))))))

abbrev Managing : Type 0
Managing = (ℕ × (ℕ × (ℕ × Format))) ⊎ (ℕ ⊎ ((ℕ × ℕ) ⊎ ((ℕ × (ℕ × ℕ)) ⊎ (ℕ ⊎ (ℕ ⊎ Unit {0})))))

abbrev drawing_code : Coded Drawing
drawing_code =
    coded⊎ (coded× coded_ℕ (coded× pixel_code (coded_list rect_code)))
    (coded⊎ (coded× coded_ℕ (coded× coded_ℕ (coded× rect_code (coded_list point_code))))
    (coded⊎ (coded× coded_ℕ (coded× coded_ℕ rect_code))
    (coded⊎ (coded× coded_ℕ (coded× coded_ℕ (coded_list point_code)))
    (coded× coded_ℕ (coded× coded_ℕ (coded× point_code (coded× (coded_option kind_code) (coded_option coded_ℕ))))))))

abbrev managing_code : Coded Managing
managing_code =
    coded⊎ (coded× coded_ℕ (coded× coded_ℕ (coded× coded_ℕ format_code)))
    (coded⊎ coded_ℕ (coded⊎ (coded× coded_ℕ coded_ℕ) (coded⊎ (coded× coded_ℕ (coded× coded_ℕ coded_ℕ)) (coded⊎ coded_ℕ (coded⊎ coded_ℕ coded_unit)))))

abbrev step_parts : Step → Drawing ⊎ Managing
step_parts (Fill id colour rects) = inl (inl (id, (colour, rects)))
step_parts (Copy from to rect points) = inl (inr (inl (from, (to, (rect, points)))))
step_parts (Keep id key rect) = inl (inr (inr (inl (id, (key, rect)))))
step_parts (Show key to points) = inl (inr (inr (inr (inl (key, (to, points))))))
step_parts (Paint id picture at kind glyph) = inl (inr (inr (inr (inr (id, (picture, (at, (kind, glyph))))))))
step_parts (Surface id width height format) = inr (inl (id, (width, (height, format))))
step_parts (Delete id) = inr (inr (inl id))
step_parts (Reset width height) = inr (inr (inr (inl (width, height))))
step_parts (Map id x y) = inr (inr (inr (inr (inl (id, (x, y))))))
step_parts (Forget key) = inr (inr (inr (inr (inr (inl key)))))
step_parts (Improve id) = inr (inr (inr (inr (inr (inr (inl id))))))
step_parts Frame = inr (inr (inr (inr (inr (inr (inr tt))))))

abbrev step_from : Drawing ⊎ Managing → Step
step_from (inl (inl t)) = Fill t.0 t.1.0 t.1.1
step_from (inl (inr (inl t))) = Copy t.0 t.1.0 t.1.1.0 t.1.1.1
step_from (inl (inr (inr (inl t)))) = Keep t.0 t.1.0 t.1.1
step_from (inl (inr (inr (inr (inl t))))) = Show t.0 t.1.0 t.1.1
step_from (inl (inr (inr (inr (inr t))))) = Paint t.0 t.1.0 t.1.1.0 t.1.1.1.0 t.1.1.1.1
step_from (inr (inl t)) = Surface t.0 t.1.0 t.1.1.0 t.1.1.1
step_from (inr (inr (inl id))) = Delete id
step_from (inr (inr (inr (inl t)))) = Reset t.0 t.1
step_from (inr (inr (inr (inr (inl t))))) = Map t.0 t.1.0 t.1.1
step_from (inr (inr (inr (inr (inr (inl key)))))) = Forget key
step_from (inr (inr (inr (inr (inr (inr (inl id))))))) = Improve id
step_from (inr (inr (inr (inr (inr (inr (inr none))))))) = Frame

abbrev same_step : (step : Step) → step_from (step_parts step) ≡ step
same_step (Fill id colour rects) = refl
same_step (Copy from to rect points) = refl
same_step (Keep id key rect) = refl
same_step (Show key to points) = refl
same_step (Paint id picture at kind glyph) = refl
same_step (Surface id width height format) = refl
same_step (Delete id) = refl
same_step (Reset width height) = refl
same_step (Map id x y) = refl
same_step (Forget key) = refl
same_step (Improve id) = refl
same_step Frame = refl

abbrev step_code : Coded Step
step_code = code_by (Drawing ⊎ Managing) (coded⊎ drawing_code managing_code) step_parts step_from same_step

-- ---- drafts

abbrev pub draft_code : Coded Draft
draft_code =
    code_by (Held × (List Picture × (List Step × ℕ))) (coded× held_code (coded× (coded_list drawn_code) (coded× (coded_list step_code) coded_ℕ)))
    (λ d. (d.held, (d.pictures, (d.steps, d.before))))
    (λ t. record { held = t.0; pictures = t.1.0; steps = t.1.1.0; before = t.1.1.1 }) (λ _. refl)

-- ---- heads

abbrev offer_code : Coded Offer
offer_code =
    code_by (ℕ × (Bool × Bool)) (coded× coded_ℕ (coded× coded_bool coded_bool))
    (λ o. (o.version, (o.small, o.thin))) (λ t. record { version = t.0; small = t.1.0; thin = t.1.1 }) (λ _. refl)

abbrev is_plain : Transform → Bool
is_plain transforms.Plain = true
is_plain transforms.Reduced = false

abbrev plain_where : Bool → Transform
plain_where true = transforms.Plain
plain_where false = transforms.Reduced

abbrev same_transform : (transform : Transform) → plain_where (is_plain transform) ≡ transform
same_transform transforms.Plain = refl
same_transform transforms.Reduced = refl

abbrev is_zero : Rounding → Bool
is_zero roundings.Zero = true
is_zero roundings.Nearest = false

abbrev zero_where : Bool → Rounding
zero_where true = roundings.Zero
zero_where false = roundings.Nearest

abbrev same_rounding : (rounding : Rounding) → zero_where (is_zero rounding) ≡ rounding
same_rounding roundings.Zero = refl
same_rounding roundings.Nearest = refl

abbrev quant_code : Coded Quant
quant_code =
    code_by ((values : List ℕ) × IsTrue (are_nibbles values)) (coded_sub (coded_list coded_ℕ) (λ values. IsTrue (are_nibbles values)) (λ values. Bool-set (are_nibbles values) true))
    (λ q. (q.values, q.nibbles)) (λ t. record { values = t.0; nibbles = t.1 }) (λ _. refl)

abbrev level_code : Coded Level
level_code =
    code_by (Quant × (Quant × Quant)) (coded× quant_code (coded× quant_code quant_code))
    (λ l. (l.y, (l.cb, l.cr))) (λ t. record { y = t.0; cb = t.1.0; cr = t.1.1 }) (λ _. refl)

abbrev setting_code : Coded Setting
setting_code =
    code_by (Transform × (Rounding × (Quant × (Quant × (Quant × List Level)))))
    (coded× (code_by Bool coded_bool is_plain plain_where same_transform) (coded× (code_by Bool coded_bool is_zero zero_where same_rounding) (coded× quant_code (coded× quant_code (coded× quant_code (coded_list level_code))))))
    (λ s. (s.transform, (s.rounding, (s.y, (s.cb, (s.cr, s.levels))))))
    (λ t. record { transform = t.0; rounding = t.1.0; y = t.1.1.0; cb = t.1.1.1.0; cr = t.1.1.1.1.0; levels = t.1.1.1.1.1 }) (λ _. refl)

abbrev is_one : Entropy → Bool
is_one entropies.One = true
is_one entropies.Three = false

abbrev one_where : Bool → Entropy
one_where true = entropies.One
one_where false = entropies.Three

abbrev same_entropy : (entropy : Entropy) → one_where (is_one entropy) ≡ entropy
same_entropy entropies.One = refl
same_entropy entropies.Three = refl

abbrev head_code : Coded HeadParts
head_code =
    code_by (ℕ × (List Offer × (Setting × (Bool × Entropy))))
    (coded× coded_ℕ (coded× (coded_list offer_code) (coded× setting_code (coded× coded_bool (code_by Bool coded_bool is_one one_where same_entropy)))))
    (λ h. (h.window, (h.offers, (h.setting, (h.differences, h.entropy)))))
    (λ t. record { window = t.0; offers = t.1.0; setting = t.1.1.0; differences = t.1.1.1.0; entropy = t.1.1.1.1 }) (λ _. refl)

-- ---- scripts under way

abbrev turn_parts : Turn → Option (ℕ ⊎ ℕ)
turn_parts turns.Server = None
turn_parts (turns.Client most) = Some (inl most)
turn_parts (turns.Answer most) = Some (inr most)

abbrev turn_from : Option (ℕ ⊎ ℕ) → Turn
turn_from None = turns.Server
turn_from (Some (inl most)) = turns.Client most
turn_from (Some (inr most)) = turns.Answer most

abbrev same_turn : (turn : Turn) → turn_from (turn_parts turn) ≡ turn
same_turn turns.Server = refl
same_turn (turns.Client most) = refl
same_turn (turns.Answer most) = refl

abbrev turn_code : Coded Turn
turn_code = code_by (Option (ℕ ⊎ ℕ)) (coded_option (coded⊎ coded_ℕ coded_ℕ)) turn_parts turn_from same_turn

abbrev pub building_code : Coded Building
building_code =
    code_by (HeadParts × (Draft × List Turn)) (coded× head_code (coded× draft_code (coded_list turn_code)))
    (λ b. (b.head, (b.draft, b.turns))) (λ t. record { head = t.0; draft = t.1.0; turns = t.1.1 }) (λ _. refl)
