-- every request has its row, and the opening is sound
use Rattle.std.proofs.Common.{◌≡◌, Some, None, refl, arith}
use Rattle.key_words.proofs.Lookups.{maps}
use Rattle.store_rules.specs.declared.names.NameReq.{NameReq}
use Rattle.store_rules.specs.declared.names.NameReq.TheVariants as names
use Rattle.store_rules.specs.declared.files.FileReq.{FileReq}
use Rattle.store_rules.specs.declared.files.FileReq.TheVariants as files
use Rattle.store_rules.specs.declared.blocks.BlockReq.{BlockReq}
use Rattle.store_rules.specs.declared.blocks.BlockReq.TheVariants as blocks
use Rattle.store_rules.specs.declared.disks.DiskReq.{DiskReq}
use Rattle.store_rules.specs.declared.disks.DiskReq.TheVariants as disks
use Rattle.store_rules.specs.declared.any.AnyReq.{AnyReq}
use Rattle.store_rules.specs.declared.any.AnyReq.TheVariants as any
use Rattle.store_rules.specs.Store.{opening_store}
use Rattle.store_pasts.specs.Worlds.{World, next, opening_ghost}
use Rattle.store_world.specs.Sound.{Sound}
use Rattle.store_pasts.specs.Requests.{Needs}
use Rattle.store_world.specs.Kept.{Kept}
use Rattle.store_pasts.specs.RoleLaws.{RoleLaws}
use Rattle.store_world.proofs.Frames.{Row}
use Rattle.store_world.proofs.Reading.{check_row, look_row, list_row}
use Rattle.store_world.proofs.Making.{make_dir_row, make_file_row}
use Rattle.store_world.proofs.Binding.{bind_row, swap_row, unbind_row}
use Rattle.store_world.proofs.Holding.{grant_dir_row, grant_file_row, release_dir_row, release_file_row}
use Rattle.store_world.proofs.Attaching.{take_token_row, attach_row, list_blocks_row}
use Rattle.store_world.proofs.Sealing.{seal_dir_row, seal_file_row}
use Rattle.store_world.proofs.Blocks.{make_block_row, seal_block_row, get_block_row}
use Rattle.store_world.proofs.BlockHolds.{grant_block_row, release_block_row}
use Rattle.store_world.proofs.Chunks.{put_row, get_row}

name_row : (q : NameReq) → Row (any.Name q)
name_row (names.CheckDir d) = check_row d
name_row (names.Look k) = look_row k
name_row (names.List d) = list_row d
name_row (names.MakeDir d p h k) = make_dir_row d p h k
name_row (names.Bind k n h o) = bind_row k n h o
name_row (names.Swap d from to n h) = swap_row d from to n h
name_row (names.Unbind k want) = unbind_row k want
name_row (names.Grant d h k) = grant_dir_row d h k
name_row (names.Release d h) = release_dir_row d h
name_row (names.SealDir d) = seal_dir_row d

file_row : (q : FileReq) → Row (any.File q)
file_row (files.MakeFile f h k t) = make_file_row f h k t
file_row (files.Grant f h k) = grant_file_row f h k
file_row (files.Release f h) = release_file_row f h
file_row (files.TakeToken f t) = take_token_row f t
file_row (files.Attach f t b n h) = attach_row f t b n h
file_row (files.ListBlocks f) = list_blocks_row f
file_row (files.SealFile f) = seal_file_row f

block_row : (q : BlockReq) → Row (any.Block q)
block_row (blocks.MakeBlock b c n f h rs) = make_block_row b c n f h rs
block_row (blocks.SealBlock b) = seal_block_row b
block_row (blocks.GetBlock b) = get_block_row b
block_row (blocks.Grant b h f) = grant_block_row b h f
block_row (blocks.Release b h) = release_block_row b h

disk_row : (q : DiskReq) → Row (any.Disk q)
disk_row (disks.Put c bytes) = put_row c bytes
disk_row (disks.Get c) = get_row c

row : (q : AnyReq) → Row q
row (any.Name q) = name_row q
row (any.File q) = file_row q
row (any.Block q) = block_row q
row (any.Disk q) = disk_row q

-- Each request whose needs are met keeps the world sound, leaves what it does not touch, and teaches.
pub row_kept : (w : World) → Sound w → (q : AnyReq) → Needs w q → Kept w (next w q) q
row_kept w s q needs = (row q).kept w s needs

pub role_laws : (q : AnyReq) → RoleLaws q
role_laws q = (row q).laws

-- the opening is sound: the root was made, and nothing is named or held
pub opening_sound : Sound record { store = opening_store; ghost = opening_ghost }
opening_sound = record {
  entries = record {
    bound = λ k e is. grind (arith, maps);
    at_home = λ k e is. grind (arith, maps);
    in_dir = λ k is. grind (arith, maps);
    set = λ h g is p. grind arith;
  };
  holds = record {
    set = λ h g is p. grind arith;
    live = λ h g is l nd. grind arith;
    listed = λ n h u is. grind (arith, maps);
    lower_made = λ h g is. grind arith;
    upper_made = λ h g is. grind arith;
  };
  nodes = record {
    standing_made = λ n st. grind (arith, maps);
    named_made = λ n e. grind arith;
  };
  tree = record {
    named = λ d p k par hm. grind arith;
    unnamed = λ h g d p is low hm par. grind arith;
    stands = λ d is. grind (arith, maps);
    climbs = λ d is. (0, grind (arith, maps));
    root_made = grind (arith, maps);
    root_home = refl;
    root_free = λ h g is low. grind arith;
  };
  rows = record {
    bound = λ f i r is. grind (arith, maps);
    has_hold = λ f i r is. grind (arith, maps);
    sealed_as = λ f i r is. grind (arith, maps);
    set = λ h g i is p. grind arith;
    live = λ h g is l. grind arith;
    listed = λ b h u is. grind (arith, maps);
    file_made = λ h g is. grind arith;
  };
  blocks = record {
    shape = λ b. grind (arith, maps);
    rows = λ b. grind (arith, maps);
    version = λ b. grind (arith, maps);
    length = λ b. refl;
    some = λ b n is. absurd (let k : None ≡ Some n = is in cc);
    apart = λ b m is. absurd (let k : None ≡ Some m = is in cc);
    at_home = λ b d t is. grind arith;
    tagged_born = λ t b d is. grind arith;
  };
  chunks = record {
    at_home = λ c is. grind (arith, maps);
    content = λ c bytes is. grind (arith, maps);
    stored = λ b d t sealed is. grind arith;
  };
}
